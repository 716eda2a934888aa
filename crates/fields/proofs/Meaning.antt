-- What the tests of bytes and names mean, both ways: a test is true exactly if this holds of places and bytes. `same_bytes` is equality,
-- `name_before` a strict order, and `first_where` the first place that passes. Assumes nothing.
use Prim.Native.Nat.{ℕ, zero, suc, ◌+◌, ◌-◌, ◌≤◌, ◌<◌}
use mathlib.Core.Path.{◌≡◌, refl, sym, ap, ap₂, ◌∙◌}
use mathlib.Core.Bool.{Bool, true, false, not, ◌&&◌, ◌||◌, or-true, true≢false}
use mathlib.Core.List.{List, [], ◌∷◌}
use mathlib.Core.Logic.{◌⊎◌, inl, inr, ⊎_elim}
use native.Mathlib.Omega.{arith}
use borrow.Author.Tests.{ltb-true, ltb-false, leb-true, eqb-true, lt-ltb, le-leb, eq-eqb, not-true, not-false}
use lib.Dec.{eqb, leb, ltb}
use lib.ListN.{length, get_or, drop}
use lib.Seq.{get_or-drop}
use Rattle.fields.specs.Bytes.{byte_at, part, all, all_zero}
use Rattle.fields.specs.Names.{name_byte, name_in, name_rule, same_bytes, name_before}
use Rattle.fields.specs.Scan.{first_where}
use Rattle.fields.proofs.Both.{both_left, both_right, parts, both, either, or_left, or_right}
use Rattle.fields.proofs.Laws.{part-byte, part_length, part-short}
use Rattle.fields.proofs.Scan.{bad-at, bad-from, good-before}

-- ---- a test of every byte
pub all-means : (test : ℕ → Bool) (s : List ℕ) → all test s ≡ true → (i : ℕ) → i < length s → test (get_or s i 0) ≡ true
unfolding all
all-means test [] e i h = absurd (omega arith)
all-means test (x ∷ xs) e zero h = both_left (test x) (all test xs) e
all-means test (x ∷ xs) e (suc i) h = all-means test xs (both_right (test x) (all test xs) e) i (omega arith)

pub means-all : (test : ℕ → Bool) (s : List ℕ) → ((i : ℕ) → i < length s → test (get_or s i 0) ≡ true) → all test s ≡ true
unfolding all
means-all test [] f = refl
means-all test (x ∷ xs) f =
    both (test x) (all test xs) (f 0 (omega arith)) (means-all test xs (λ i h. f (suc i) (omega arith)))

-- ---- unused bytes: each is 0, and so is what is read past the end
pub zero-means : (s : List ℕ) → all_zero s ≡ true → (i : ℕ) → byte_at s i ≡ 0
unfolding all
zero-means [] e zero = refl
zero-means [] e (suc i) = refl
zero-means (x ∷ xs) e zero = eqb-true x 0 (both_left (eqb x 0) (all_zero xs) e)
zero-means (x ∷ xs) e (suc i) = zero-means xs (both_right (eqb x 0) (all_zero xs) e) i

-- the same of a part of s, by the places of s
pub zero-part : (s : List ℕ) (k n : ℕ) → all_zero (part s k n) ≡ true → (i : ℕ) → k ≤ i → i < k + n → byte_at s i ≡ 0
zero-part s k n e i low high =
    let p : i - k < n = omega arith in
    let q : k + (i - k) ≡ i = omega arith in
    ap (byte_at s) (sym q) ∙ sym (part-byte s k n (i - k) p) ∙ zero-means (part s k n) e (i - k)

pub part-zero : (s : List ℕ) (k n : ℕ) → ((i : ℕ) → k ≤ i → i < k + n → byte_at s i ≡ 0) → all_zero (part s k n) ≡ true
part-zero s k n f =
    means-all (λ x. eqb x 0) (part s k n)
    (λ i h. let g : i < n = omega (arith, part-short s k n) in
    eq-eqb _ 0 (part-byte s k n i g ∙ f (k + i) (omega arith) (omega arith)))

-- and of the bytes from k on
pub zero_rest : (s : List ℕ) (k : ℕ) → all_zero (drop k s) ≡ true → (i : ℕ) → k ≤ i → byte_at s i ≡ 0
zero_rest s k e i low =
    let q : k + (i - k) ≡ i = omega arith in
    ap (byte_at s) (sym q) ∙ sym (get_or-drop k s (i - k) 0) ∙ zero-means (drop k s) e (i - k)

pub rest-zero : (s : List ℕ) (k : ℕ) → ((i : ℕ) → k ≤ i → byte_at s i ≡ 0) → all_zero (drop k s) ≡ true
rest-zero s k f =
    means-all (λ x. eqb x 0) (drop k s) (λ i h. eq-eqb _ 0 (get_or-drop k s i 0 ∙ f (k + i) (omega arith)))

-- ---- a name's field
-- A to Z, 0 to 9 and underscore
abbrev pub NameByte : ℕ → Type 0
NameByte x = ((65 ≤ x) × (x ≤ 90)) ⊎ (((48 ≤ x) × (x ≤ 57)) ⊎ (x ≡ 95))

pub byte-means : (x : ℕ) → name_byte x ≡ true → NameByte x
unfolding name_byte
byte-means x e =
    ⊎_elim
    (λ p. ⊎_elim (λ q. inl (between 65 90 q)) (λ q. inr (inl (between 48 57 q)))
    (either (leb 65 x && leb x 90) (leb 48 x && leb x 57) p))
    (λ p. inr (inr (eqb-true x 95 p)))
    (either (leb 65 x && leb x 90 || leb 48 x && leb x 57) (eqb x 95) e)
  where
    between : (a b : ℕ) → (leb a x && leb x b) ≡ true → (a ≤ x) × (x ≤ b)
    between a b h = (leb-true a x (both_left (leb a x) (leb x b) h), leb-true x b (both_right (leb a x) (leb x b) h))

pub byte-holds : (x : ℕ) → NameByte x → name_byte x ≡ true
unfolding name_byte
byte-holds x (inl (a, b)) = rw (le-leb 65 x a, le-leb x 90 b)
byte-holds x (inr (inl (a, b))) = or_left _ _ (or_right (leb 65 x && leb x 90) _ (rw (le-leb 48 x a, le-leb x 57 b)))
byte-holds x (inr (inr e)) = or_right (leb 65 x && leb x 90 || leb 48 x && leb x 57) _ (eq-eqb x 95 e)

pub record NameKept (field : List ℕ) : Type 0 where
  pub shortest : 1 ≤ byte_at field 0
  pub longest : byte_at field 0 ≤ 30
  pub alphabet : (i : ℕ) → i < length (name_in field) → NameByte (byte_at (name_in field) i)
  pub rest : (i : ℕ) → byte_at field 0 < i → i ≤ 30 → byte_at field i ≡ 0

pub name-means : (field : List ℕ) → name_rule field ≡ true → NameKept field
unfolding name_rule
name-means field e =
    let q3 = parts _ _ e in
    let q2 = parts _ _ q3.0 in
    let q1 = parts _ _ q2.0 in
    let n : ℕ = byte_at field 0 in
    record {
      shortest = leb-true _ _ q1.0;
      longest = leb-true _ _ q1.1;
      alphabet = λ i h. byte-means (byte_at (name_in field) i) (all-means name_byte (name_in field) q2.1 i h);
      rest = λ i low high. zero-part field (1 + n) (30 - n) q3.1 i (omega arith) (omega arith);
    }

pub name-holds : (field : List ℕ) → NameKept field → name_rule field ≡ true
unfolding name_rule
name-holds field k =
    let n : ℕ = byte_at field 0 in
    rw (
      le-leb _ _ k.shortest,
      le-leb _ _ k.longest,
      means-all name_byte (name_in field) (λ i h. byte-holds (byte_at (name_in field) i) (k.alphabet i h)),
      part-zero field (1 + n) (30 - n) (λ i low high. k.rest i (omega arith) (omega (arith, k.longest))),
    )

-- the name in a field of 31 bytes is as long as its first byte says, and stands from the next byte on
pub name-length : (field : List ℕ) → length field ≡ 31 → NameKept field → length (name_in field) ≡ byte_at field 0
unfolding name_in
name-length field e k = part_length field 1 (byte_at field 0) (omega arith)

pub name-byte-at : (field : List ℕ) (i : ℕ) → i < byte_at field 0 → byte_at (name_in field) i ≡ byte_at field (1 + i)
unfolding name_in
name-byte-at field i h = part-byte field 1 (byte_at field 0) i h

-- ---- the same name
pub same-means : (a b : List ℕ) → same_bytes a b ≡ true → a ≡ b
unfolding same_bytes
same-means [] [] e = refl
same-means [] (y ∷ ys) e = absurd (true≢false (sym e))
same-means (x ∷ xs) [] e = absurd (true≢false (sym e))
same-means (x ∷ xs) (y ∷ ys) e =
    ap₂ (λ (z : ℕ) (zs : List ℕ). z ∷ zs) (eqb-true x y (both_left (eqb x y) (same_bytes xs ys) e))
    (same-means xs ys (both_right (eqb x y) (same_bytes xs ys) e))

pub same_refl : (a : List ℕ) → same_bytes a a ≡ true
unfolding same_bytes
same_refl [] = refl
same_refl (x ∷ xs) = both (eqb x x) (same_bytes xs xs) (eq-eqb x x refl) (same_refl xs)

pub differ-means : (a b : List ℕ) → same_bytes a b ≡ false → a ≡ b → ⊥
differ-means a b e q = true≢false (sym (same_refl b) ∙ ap (λ (s : List ℕ). same_bytes s b) (sym q) ∙ e)

-- ---- byte order is a strict order
-- two names that begin with a byte each: the bytes decide, or are equal and the rests decide
before-cons : (x y : ℕ) (r : Bool) → (ltb x y || eqb x y && r) ≡ true → (x < y) ⊎ ((x ≡ y) × (r ≡ true))
before-cons x y r e =
    ⊎_elim (λ l. inl (ltb-true x y l)) (λ p. inr (eqb-true x y (both_left (eqb x y) r p), both_right (eqb x y) r p))
    (either (ltb x y) (eqb x y && r) e)

cons-before : (x y : ℕ) (r : Bool) → (x < y) ⊎ ((x ≡ y) × (r ≡ true)) → (ltb x y || eqb x y && r) ≡ true
cons-before x y r (inl l) = rw (lt-ltb x y l)
cons-before x y r (inr (q, e)) = rw (eq-eqb x y q, e) (or-true (ltb x y))

pub before-irrefl : (a : List ℕ) → name_before a a ≡ true → ⊥
unfolding name_before
before-irrefl [] e = true≢false (sym e)
before-irrefl (x ∷ xs) e =
    ⊎_elim (λ l. omega arith) (λ p. before-irrefl xs p.1) (before-cons x x (name_before xs xs) e)

pub before-trans : (a b c : List ℕ) → name_before a b ≡ true → name_before b c ≡ true → name_before a c ≡ true
unfolding name_before
before-trans a [] [] e d = absurd (true≢false (sym d))
before-trans [] [] (z ∷ zs) e d = refl
before-trans (x ∷ xs) [] (z ∷ zs) e d = absurd (true≢false (sym e))
before-trans a (y ∷ ys) [] e d = absurd (true≢false (sym d))
before-trans [] (y ∷ ys) (z ∷ zs) e d = refl
before-trans (x ∷ xs) (y ∷ ys) (z ∷ zs) e d =
    cons-before x z (name_before xs zs)
    (at (before-cons x y (name_before xs ys) e) (before-cons y z (name_before ys zs) d) (before-trans xs ys zs))
  where
    at : (x < y) ⊎ ((x ≡ y) × (name_before xs ys ≡ true)) → (y < z) ⊎ ((y ≡ z) × (name_before ys zs ≡ true))
        → (name_before xs ys ≡ true → name_before ys zs ≡ true → name_before xs zs ≡ true)
        → (x < z) ⊎ ((x ≡ z) × (name_before xs zs ≡ true))
    at (inl l) (inl m) later = inl (omega arith)
    at (inl l) (inr (q, f)) later = inl (omega arith)
    at (inr (q, f)) (inl m) later = inl (omega arith)
    at (inr (q, f)) (inr (r, g)) later = inr (q ∙ r, later f g)

-- of two names that differ, one comes before the other
pub before-total : (a b : List ℕ) → (a ≡ b) ⊎ ((name_before a b ≡ true) ⊎ (name_before b a ≡ true))
unfolding name_before
before-total [] [] = inl refl
before-total [] (y ∷ ys) = inr (inl refl)
before-total (x ∷ xs) [] = inr (inr refl)
before-total (x ∷ xs) (y ∷ ys) = at (ltb x y) refl (ltb y x) refl (before-total xs ys)
  where
    at : (s : Bool) → ltb x y ≡ s → (t : Bool) → ltb y x ≡ t
        → (xs ≡ ys) ⊎ ((name_before xs ys ≡ true) ⊎ (name_before ys xs ≡ true))
        → (x ∷ xs ≡ y ∷ ys)
        ⊎ (((ltb x y || eqb x y && name_before xs ys) ≡ true) ⊎ ((ltb y x || eqb y x && name_before ys xs) ≡ true))
    at true e t d later = inr (inl (cons-before x y (name_before xs ys) (inl (ltb-true x y e))))
    at false e true d later = inr (inr (cons-before y x (name_before ys xs) (inl (ltb-true y x d))))
    at false e false d later =
        let l : y ≤ x = ltb-false x y e in
        let m : x ≤ y = ltb-false y x d in
        let q : x ≡ y = omega arith in
        ⊎_elim (λ p. inl (ap₂ (λ (z : ℕ) (zs : List ℕ). z ∷ zs) q p))
        (⊎_elim (λ p. inr (inl (cons-before x y (name_before xs ys) (inr (q, p)))))
        (λ p. inr (inr (cons-before y x (name_before ys xs) (inr (sym q, p))))))
        later

-- ---- the first of the n places from k on that passes a test
module _ (test : ℕ → Bool) (n k : ℕ) where
  pub found_at : first_where test n k < k + n → test (first_where test n k) ≡ true
  found_at l = not-false (test (first_where test n k)) (bad-at (λ i. not (test i)) n k l)

  -- no earlier place passes
  pub found_first : (i : ℕ) → k ≤ i → i < first_where test n k → test i ≡ false
  found_first i h l = not-true (test i) (good-before (λ j. not (test j)) n k i h l)

  -- a place that passes is not before it
  pub found-least : (i : ℕ) → k ≤ i → test i ≡ true → first_where test n k ≤ i
  found-least i h e = at (ltb i (first_where test n k)) refl
    where
      at : (t : Bool) → ltb i (first_where test n k) ≡ t → first_where test n k ≤ i
      at true l = absurd (true≢false (sym e ∙ found_first i h (ltb-true i (first_where test n k) l)))
      at false l = ltb-false i (first_where test n k) l

  -- where one place alone passes, it is that one
  pub found-unique : (i : ℕ) → k ≤ i → i < k + n → test i ≡ true
      → ((j : ℕ) → k ≤ j → j < k + n → test j ≡ true → j ≡ i) → first_where test n k ≡ i
  found-unique i h l e only =
      let least : first_where test n k ≤ i = found-least i h e in
      let from : k ≤ first_where test n k = bad-from (λ j. not (test j)) n k in
      let inside : first_where test n k < k + n = omega arith in
      only (first_where test n k) from inside (found_at inside)
