-- Text that is printed for a label is read as that label. Assumes nothing.
use Prim.Native.Nat.{ℕ, ◌+◌, ◌<◌}
use mathlib.Core.Path.{◌≡◌, refl, sym, ap, ap₂, ◌∙◌}
use mathlib.Core.Bool.{Bool, true, false}
use mathlib.Core.List.{List, [], ◌∷◌}
use native.Mathlib.Omega.{arith}
use borrow.Author.Tests.{lt-ltb}
use lib.ListN.{length}
use Rattle.sets.specs.Sets.{none, empty}
use Rattle.sets.proofs.Meets.{empty-none}
use Rattle.header.specs.Layout.{levels, compartments, groups, labels}
use Rattle.image.specs.Check.{IsAccepted}
use Rattle.labels.specs.Label.{Marks, label_at, label_exists}
use Rattle.labels.specs.Text.{colon, split}
use Rattle.labels.specs.Parse.{read, read_list, read_sets, read_parts, of_text, parse_of}
use Rattle.printing.specs.Print.{name_at, list_text, text_of}
use Rattle.labels.proofs.Tells.{read-tells, parsed-read}
use Rattle.labels.proofs.Existing.{exists-means, means-exists, record-exists, parsed-exists}
use Rattle.roundtrip.proofs.OwnNames.{place-of-own-name}
use Rattle.roundtrip.proofs.ListsRead.{list_read}
use Rattle.roundtrip.proofs.TextShape.{parts-level, parts_first, parts-both, shape-of-text}

same-label : (m : Marks) (c g : ℕ) → c ≡ m.compartments → g ≡ m.groups
    → read (record { level = m.level; compartments = c; groups = g }) ≡ read m
same-label m c g e d = ap₂ (λ (x y : ℕ). read (record { level = m.level; compartments = x; groups = y })) e d

module _ (im : List ℕ) (acc : IsAccepted im) (m : Marks) (h : label_exists im m ≡ true) where
  abbrev first : List ℕ
  first = list_text im 2 (compartments im) m.compartments

  abbrev second : List ℕ
  second = list_text im 3 (groups im) m.groups

  level-read : (rest : List (List ℕ))
      → read_parts im (name_at im 1 m.level ∷ rest) ≡ read_sets im m.level (length (name_at im 1 m.level) + 1) rest
  level-read rest =
      rw (
        place-of-own-name im acc 1 (omega arith) (omega arith) m.level (exists-means im m h).level,
        lt-ltb m.level (levels im) (exists-means im m h).level,
      )

  first_read : (offset : ℕ) → read_list im 2 offset first ≡ read m.compartments
  first_read = list_read im acc 2 (omega arith) (omega arith) m.compartments (exists-means im m h).compartments

  second-read : (offset : ℕ) → read_list im 3 offset second ≡ read m.groups
  second-read = list_read im acc 3 (omega arith) (omega arith) m.groups (exists-means im m h).groups

  parts-read : read_parts im (split colon (text_of im m)) ≡ read m
  parts-read = at (empty m.groups) refl (empty m.compartments) refl
    where
      at : (g : Bool) → empty m.groups ≡ g → (c : Bool) → empty m.compartments ≡ c → read_parts im (split colon (text_of im m)) ≡ read m
      at true e true d =
          rw (parts-level im acc m h e d)
          (level-read [] ∙ same-label m none none (sym (empty-none m.compartments d)) (sym (empty-none m.groups e)))
      at true e false d =
          rw (parts_first im acc m h e d)
          (level-read (first ∷ [])
          ∙ rw (first_read (length (name_at im 1 m.level) + 1)) (same-label m m.compartments none refl (sym (empty-none m.groups e))))
      at false e c d =
          rw (parts-both im acc m h e)
          (level-read (first ∷ second ∷ [])
          ∙ rw (
            first_read (length (name_at im 1 m.level) + 1),
            second-read (length (name_at im 1 m.level) + 1 + length first + 1),
          ))

  pub parse-of-print : parse_of im (text_of im m) ≡ of_text (read m)
  unfolding parse_of
  parse-of-print = rw (acc, shape-of-text im acc m h) (ap of_text parts-read)

-- ---- so the print of every label of an accepted image is read as that label
pub record-reads-back : (im : List ℕ) → IsAccepted im → (k : ℕ) → k < labels im
    → parse_of im (text_of im (label_at im k)) ≡ of_text (read (label_at im k))
record-reads-back im acc k h = parse-of-print im acc (label_at im k) (record-exists im acc k h)

-- ---- and the text tells the label
pub text-tells : (im : List ℕ) → IsAccepted im → (m n : Marks) → label_exists im m ≡ true → label_exists im n ≡ true
    → text_of im m ≡ text_of im n → m ≡ n
text-tells im acc m n h k e =
    let q = parsed-read im (text_of im n) (read m) (ap (parse_of im) (sym e) ∙ parse-of-print im acc m h) in
    let p = parsed-read im (text_of im n) (read n) (parse-of-print im acc n k) in
    read-tells m n (sym q.1 ∙ p.1)

-- ---- a text that is read as a label: the image is accepted, the policy has the label, and its print is read as it again
pub parsed-has : (im text : List ℕ) (m : Marks) → parse_of im text ≡ of_text (read m) → label_exists im m ≡ true
parsed-has im text m e = means-exists im m (parsed-exists im text m e)

pub print-of-parse : (im text : List ℕ) (m : Marks) → parse_of im text ≡ of_text (read m)
    → (label_exists im m ≡ true) × (parse_of im (text_of im m) ≡ of_text (read m))
print-of-parse im text m e =
    let h = parsed-has im text m e in
    (h, parse-of-print im (parsed-read im text (read m) e).0 m h)
