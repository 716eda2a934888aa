-- Laws of the scans over bytes and names. For each scan: what it gives where the loop that runs it stops, steps on and ends, from
-- the loop's invariant, that what is left gives what the whole gives. Assumes nothing.
use Prim.Native.Nat.{ℕ, zero, suc, ◌+◌, ◌-◌, ◌≤◌, ◌<◌, min}
use mathlib.Core.Path.{◌≡◌, refl, sym, ap, ◌∙◌}
use mathlib.Core.Bool.{Bool, true, false, ◌&&◌, ◌||◌, or-false}
use mathlib.Core.List.{List, [], ◌∷◌}
use mathlib.Core.Logic.{⊎_elim}
use native.Mathlib.Nat.{le_refl, sub-zero, zero-sub, add-sub_cancel_left}
use native.Mathlib.Numerals.{add-one}
use native.Mathlib.Omega.{arith}
use borrow.Author.Tests.{lt-ltb, le-ltb, eq-eqb, ne_eqb}
use lib.Dec.{eqb, ltb}
use lib.ListN.{length, get_or, take, drop, drop_of_length-le, length-take, length-drop}
use lib.Seq.{take-nil, take_all, take-take, drop-cons, drop-drop, get_or-take, get_or-drop}
use Rattle.fields.specs.Bytes.{all, part, byte_at}
use Rattle.fields.specs.Names.{same_bytes, name_before}
use Rattle.fields.proofs.Both.{below_or}

-- ---- the first n of a list, without the first m
pub drop-take : (m n : ℕ) (s : List ℕ) → drop m (take n s) ≡ take (n - m) (drop m s)
drop-take zero n s = rw sub-zero
drop-take (suc m) zero s = rw zero-sub
drop-take (suc m) (suc n) [] = sym (take-nil (suc n - suc m))
drop-take (suc m) (suc n) (x ∷ s) = let e : n - m ≡ suc n - suc m = omega arith in drop-take m n s ∙ ap (λ (k : ℕ). take k (drop m s)) e

-- ---- a part, as code takes it: from k up to k + n
module _ (s : List ℕ) (k n : ℕ) where
  pub part-taken : take (k + n - k) (drop k s) ≡ part s k n
  part-taken = rw add-sub_cancel_left

  pub part_length : k + n ≤ length s → length (part s k n) ≡ n
  part_length h = simp (length-take, length-drop) (omega arith)

  pub part-short : length (part s k n) ≤ n
  part-short = simp length-take (omega arith)

  pub part-byte : (i : ℕ) → i < n → byte_at (part s k n) i ≡ byte_at s (k + i)
  part-byte i h = rw (get_or-take, get_or-drop)

-- a part of a part
pub part-part : (s : List ℕ) (k n i m : ℕ) → i + m ≤ n → part (part s k n) i m ≡ part s (k + i) m
part-part s k n i m h =
    ap (take m) (drop-take i n (drop k s)) ∙ take-take m (n - i) (drop i (drop k s)) (omega arith) ∙ ap (take m) (drop-drop i k s)

-- and from k up to the end
pub rest-taken : (s : List ℕ) (k : ℕ) → take (length s - k) (drop k s) ≡ drop k s
rest-taken s k = take_all (length s - k) (drop k s) (rw length-drop (le_refl (length s - k)))

-- ---- a test of every byte
module _ (test : ℕ → Bool) (s : List ℕ) (i : ℕ) where
  pub all-at : i < length s → all test (drop i s) ≡ (test (get_or s i 0) && all test (drop (i + 1) s))
  unfolding all
  all-at h = rw (drop-cons s i 0, add-one)

  -- w is what the whole gives
  module _ (w : Bool) where
    pub all-from-stop : i < length s → all test (drop i s) ≡ w → test (get_or s i 0) ≡ false → false ≡ w
    all-from-stop h inv e = sym (sym inv ∙ all-at h ∙ rw e)

    pub all-from-step : i < length s → all test (drop i s) ≡ w → test (get_or s i 0) ≡ true → all test (drop (i + 1) s) ≡ w
    all-from-step h inv e = sym (sym inv ∙ all-at h ∙ rw e)

    pub all-from-done : length s ≤ i → all test (drop i s) ≡ w → true ≡ w
    unfolding all
    all-from-done h inv = rw (drop_of_length-le s h) at inv

-- ---- the same bytes
module _ (a b : List ℕ) (i : ℕ) where
  same_at : i < length a → i < length b
      → same_bytes (drop i a) (drop i b) ≡ (eqb (get_or a i 0) (get_or b i 0) && same_bytes (drop (i + 1) a) (drop (i + 1) b))
  unfolding same_bytes
  same_at ha hb = rw (drop-cons a i 0, drop-cons b i 0, add-one)

  pub same_stop : i < length a → i < length b → same_bytes (drop i a) (drop i b) ≡ same_bytes a b
      → (get_or a i 0 ≡ get_or b i 0 → ⊥) → false ≡ same_bytes a b
  same_stop ha hb inv e = sym (sym inv ∙ same_at ha hb ∙ rw (ne_eqb (get_or a i 0) (get_or b i 0) e))

  pub same_step : i < length a → i < length b → same_bytes (drop i a) (drop i b) ≡ same_bytes a b
      → get_or a i 0 ≡ get_or b i 0 → same_bytes (drop (i + 1) a) (drop (i + 1) b) ≡ same_bytes a b
  same_step ha hb inv e = sym (sym inv ∙ same_at ha hb ∙ rw (eq-eqb (get_or a i 0) (get_or b i 0) e))

  pub same-done : length a ≤ i → length b ≤ i → same_bytes (drop i a) (drop i b) ≡ same_bytes a b → true ≡ same_bytes a b
  unfolding same_bytes
  same-done ha hb inv = rw (drop_of_length-le a ha, drop_of_length-le b hb) at inv

-- runs of different lengths differ
pub same_length : (a b : List ℕ) → (length a ≡ length b → ⊥) → false ≡ same_bytes a b
unfolding same_bytes
same_length [] [] h = absurd (h refl)
same_length [] (y ∷ ys) h = refl
same_length (x ∷ xs) [] h = refl
same_length (x ∷ xs) (y ∷ ys) h = go (eqb x y) (same_length xs ys (λ e. h (ap suc e)))
  where
    go : (t : Bool) → false ≡ same_bytes xs ys → false ≡ (t && same_bytes xs ys)
    go true e = e
    go false e = refl

-- ---- byte order
module _ (a b : List ℕ) (i : ℕ) where
  before_at : i < length a → i < length b
      → name_before (drop i a) (drop i b)
      ≡ (ltb (get_or a i 0) (get_or b i 0) || eqb (get_or a i 0) (get_or b i 0) && name_before (drop (i + 1) a) (drop (i + 1) b))
  unfolding name_before
  before_at ha hb = rw (drop-cons a i 0, drop-cons b i 0, add-one)

  -- the first byte that differs decides
  pub before-stop : i < length a → i < length b → name_before (drop i a) (drop i b) ≡ name_before a b
      → (get_or a i 0 ≡ get_or b i 0 → ⊥) → ltb (get_or a i 0) (get_or b i 0) ≡ name_before a b
  before-stop ha hb inv e = sym (sym inv ∙ before_at ha hb ∙ rw (ne_eqb (get_or a i 0) (get_or b i 0) e) (or-false _))

  pub before-step : i < length a → i < length b → name_before (drop i a) (drop i b) ≡ name_before a b
      → get_or a i 0 ≡ get_or b i 0 → name_before (drop (i + 1) a) (drop (i + 1) b) ≡ name_before a b
  before-step ha hb inv e =
      sym (sym inv ∙ before_at ha hb
      ∙ rw (le-ltb (get_or a i 0) (get_or b i 0) (omega arith), eq-eqb (get_or a i 0) (get_or b i 0) e))

  before-short : length a ≤ i → i < length b → name_before (drop i a) (drop i b) ≡ true
  unfolding name_before
  before-short ha hb = rw (drop_of_length-le a ha, drop-cons b i 0 hb)

before-none : (xs : List ℕ) → name_before xs [] ≡ false
unfolding name_before
before-none [] = refl
before-none (x ∷ xs) = refl

-- where the shorter begins the longer, the lengths decide
pub before-done : (a b : List ℕ) (i : ℕ) → i ≡ min (length a) (length b) → name_before (drop i a) (drop i b) ≡ name_before a b
    → ltb i (length b) ≡ name_before a b
before-done a b i e inv =
    ⊎_elim (λ l. lt-ltb i (length b) l ∙ sym (before-short a b i (omega arith) l) ∙ inv)
    (λ l. le-ltb i (length b) l ∙ sym (ap (name_before (drop i a)) (drop_of_length-le b l) ∙ before-none (drop i a)) ∙ inv)
    (below_or i (length b))
