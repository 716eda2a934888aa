-- The whole text of a label that the policy has. Assumes nothing.
use Prim.Native.Nat.{ℕ, ◌+◌, ◌*◌, ◌≤◌}
use mathlib.Core.Path.{◌≡◌, refl, sym, ap, ap₂, ◌∙◌}
use mathlib.Core.Bool.{Bool, true, false, cond, ◌&&◌}
use mathlib.Core.List.{List, [], ◌++◌, append-nil, append_assoc}
use native.Mathlib.Omega.{arith}
use borrow.Author.Tests.{lt-ltb}
use lib.ListN.{length, length-append}
use Rattle.fields.proofs.Both.{parts}
use Rattle.sets.specs.Sets.{empty}
use Rattle.header.specs.declared.edition.Edition.{Edition}
use Rattle.header.specs.declared.edition.Edition.TheVariants.{One, Two}
use Rattle.header.specs.Layout.{edition_of, levels, compartments, groups}
use Rattle.header.proofs.Editions.{counted-groups}
use Rattle.header.specs.Limits.{limits_in, limits_of}
use Rattle.image.specs.Check.{IsAccepted}
use Rattle.image.specs.Lookup.{has_component}
use Rattle.image.proofs.Accepted.{accepted-counted}
use Rattle.labels.specs.Label.{Marks, label_exists}
use Rattle.labels.proofs.Existing.{exists-means}
use Rattle.printing.specs.Print.{name_at, section, text_of, Named}
use Rattle.buffers.specs.Pasting.{Written}
use Rattle.printing.proofs.Listed.{name-short, listed-short}
use Rattle.buffers.proofs.Left.{written_then, written-long}
use Rattle.printing.proofs.Sections.{section-length}

-- ---- the components are there
pub has-level : (im : List ℕ) (m : Marks) → label_exists im m ≡ true → has_component im 1 m.level ≡ true
unfolding has_component
has-level im m e = rw (lt-ltb m.level (levels im) (exists-means im m e).level)

pub named-compartments : (im : List ℕ) → IsAccepted im → Named im 2 (compartments im)
unfolding has_component
named-compartments im acc =
    record { accepted = acc; present = λ p h. rw (lt-ltb p (compartments im) h); few = omega (arith, (accepted-counted im acc).compartments_limit) }

pub named-groups : (im : List ℕ) → IsAccepted im → Named im 3 (groups im)
unfolding has_component
named-groups im acc =
    record { accepted = acc; present = λ p h. lt-ltb p (groups im) h; few = counted-groups im (accepted-counted im acc) }

-- ---- which parts the text has
module _ (im : List ℕ) (m : Marks) where
  abbrev first : List ℕ
  first = section im 2 (compartments im) m.compartments

  abbrev second : List ℕ
  second = section im 3 (groups im) m.groups

  pub text-level : (empty m.groups && empty m.compartments) ≡ true → text_of im m ≡ name_at im 1 m.level
  unfolding text_of
  text-level e =
      let q = parts (empty m.groups) (empty m.compartments) e in
      rw (q.0, q.1) (append-nil (name_at im 1 m.level))

  pub text-first : (empty m.groups && empty m.compartments) ≡ false → empty m.groups ≡ true
      → text_of im m ≡ name_at im 1 m.level ++ first
  unfolding text_of
  text-first n e =
      let q : empty m.compartments ≡ false = rw e at n in
      rw (e, q)

  pub text-both : empty m.groups ≡ false → text_of im m ≡ name_at im 1 m.level ++ first ++ second
  unfolding text_of
  text-both e = rw e (sym (append_assoc (name_at im 1 m.level) first second))

  pub length-level : {name : List ℕ} → name ≡ name_at im 1 m.level → (empty m.groups && empty m.compartments) ≡ true
      → length name ≡ length (text_of im m)
  length-level n e = ap length (n ∙ sym (text-level e))

  pub length-first : {name : List ℕ} {r : ℕ} → name ≡ name_at im 1 m.level → (empty m.groups && empty m.compartments) ≡ false
      → empty m.groups ≡ true → r ≡ length first → length name + r ≡ length (text_of im m)
  length-first n t e f =
      ap₂ (λ (a b : ℕ). a + b) (ap length n) f ∙ sym (length-append (name_at im 1 m.level) first) ∙ sym (ap length (text-first t e))

  pub length_both : {name : List ℕ} {r q : ℕ} → name ≡ name_at im 1 m.level → empty m.groups ≡ false
      → r ≡ length first → q ≡ length second → length name + r + q ≡ length (text_of im m)
  length_both n e f g =
      ap₂ (λ (a b : ℕ). a + b)
      (ap₂ (λ (a b : ℕ). a + b) (ap length n) f ∙ sym (length-append (name_at im 1 m.level) first)) g
      ∙ sym (length-append (name_at im 1 m.level ++ first) second) ∙ sym (ap length (text-both e))

-- the tests of the code are the tests of the definition
pub told : {a b x y t : Bool} → a ≡ x → b ≡ y → (a && b) ≡ t → (x && y) ≡ t
told e d h = sym (ap₂ (λ (s t : Bool). s && t) e d) ∙ h

-- ---- writing the parts one after another
module _ (im : List ℕ) (m : Marks) (b name : List ℕ) (n : name ≡ name_at im 1 m.level) (room : length (text_of im m) ≤ length b) where
  pub room-level : 0 + length name ≤ length b
  unfolding text_of
  room-level =
      let e = ap length n in
      let tail = cond (empty m.groups) (cond (empty m.compartments) [] (first im m)) (first im m ++ second im m) in
      omega (arith, length-append (name_at im 1 m.level) tail)

  front-room : (empty m.groups && empty m.compartments) ≡ false → 0 + length name + length (first im m) ≤ length b
  front-room t = at (empty m.groups) refl
    where
      at : (g : Bool) → empty m.groups ≡ g → 0 + length name + length (first im m) ≤ length b
      at true e = let l = length-first im m n t e refl in omega arith
      at false e = let l = length_both im m n e refl refl in omega arith

  pub room-first : {mid : List ℕ} {r : ℕ} → (empty m.groups && empty m.compartments) ≡ false → Written b 0 name mid r
      → r + length (first im m) ≤ length mid
  room-first t w =
      let l = written-long room-level w in
      let f = front-room t in
      omega (arith, w.stop)

  pub written-level : {mid : List ℕ} {r : ℕ} → (empty m.groups && empty m.compartments) ≡ true → Written b 0 name mid r
      → Written b 0 (text_of im m) mid r
  written-level t w = rw (text-level im m t, ← n) w

  module _ {mid : List ℕ} {r : ℕ} {after : List ℕ} {q : ℕ} (t : (empty m.groups && empty m.compartments) ≡ false)
      (v : Written b 0 name mid r) (w : Written mid r (first im m) after q) where
    pub written-first : empty m.groups ≡ true → Written b 0 (text_of im m) after q
    written-first e = rw (text-first im m t e, ← n) (written_then room-level v w)

    two : Written b 0 (name ++ first im m) after q
    two = written_then room-level v w

    fits-two : 0 + length (name ++ first im m) ≤ length b
    fits-two = let f = front-room t in omega (arith, length-append name (first im m))

    pub room-second : empty m.groups ≡ false → q + length (second im m) ≤ length after
    room-second e =
        let l = length_both im m n e refl refl in
        let k = written-long fits-two two in
        let s = two.stop in
        omega (arith, length-append name (first im m))

    pub written_both : {last : List ℕ} {p : ℕ} → empty m.groups ≡ false → Written after q (second im m) last p
        → Written b 0 (text_of im m) last p
    written_both e u = rw (text-both im m e, ← n) (written_then fits-two two u)

-- ---- a label's text is no longer than a text that is read may be
section-short : (im : List ℕ) (class s count : ℕ) → Named im class count → length (section im class count s) ≤ 1 + 31 * count
section-short im class s count k =
    let l = section-length im class s count in
    let f = listed-short im k.accepted class s count 0 (λ p h. k.present p (omega arith)) in
    omega arith

-- of a level of 30 bytes, and of as many compartments and groups as an edition allows
most-short : (edition : Edition) (c g : ℕ) → c ≤ (limits_in edition).compartments → g ≤ (limits_in edition).groups
    → 30 + (1 + 31 * c) + (1 + 31 * g) ≤ (limits_in edition).text
most-short One c g h k = omega arith
most-short Two c g h k = omega arith

pub text-short : (im : List ℕ) → IsAccepted im → (m : Marks) → label_exists im m ≡ true → length (text_of im m) ≤ (limits_of im).text
text-short im acc m h = at (empty m.groups) refl (empty m.compartments) refl
  where
    at : (g : Bool) → empty m.groups ≡ g → (c : Bool) → empty m.compartments ≡ c → length (text_of im m) ≤ (limits_of im).text
    at g e c d =
        let name = name-short im acc 1 m.level (has-level im m h) in
        let one = section-short im 2 m.compartments (compartments im) (named-compartments im acc) in
        let two = section-short im 3 m.groups (groups im) (named-groups im acc) in
        let k = accepted-counted im acc in
        by g e c d name one two (most-short (edition_of im) (compartments im) (groups im) k.compartments_limit k.groups_limit)
      where
        by : (g : Bool) → empty m.groups ≡ g → (c : Bool) → empty m.compartments ≡ c
            → length (name_at im 1 m.level) ≤ 30 → length (first im m) ≤ 1 + 31 * compartments im → length (second im m) ≤ 1 + 31 * groups im
            → 30 + (1 + 31 * compartments im) + (1 + 31 * groups im) ≤ (limits_of im).text
            → length (text_of im m) ≤ (limits_of im).text
        by true e true d name one two most = let l = length-level im m refl (rw (e, d)) in omega arith
        by true e false d name one two most = let l = length-first im m refl (rw (e, d)) e refl in omega arith
        by false e c d name one two most = let l = length_both im m refl e refl refl in omega arith
