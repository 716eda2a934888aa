-- Unused bytes read as numbers: one, four or eight of them are zero exactly if their number is, and a run of them is zero exactly if its
-- parts are. What is read past the end of s is zero, so no law asks for its length. Assumes nothing.
use Prim.Native.Nat.{ℕ, ◌+◌, ◌*◌, ◌≤◌, ◌<◌}
use mathlib.Core.Path.{◌≡◌, sym, ap, ◌∙◌}
use mathlib.Core.Bool.{true, ◌&&◌}
use mathlib.Core.List.{List}
use mathlib.Core.Logic.{◌⊎◌, inl, inr, ⊎_elim}
use native.Mathlib.Omega.{arith}
use borrow.Author.Tests.{eqb-true, eq-eqb, ltb-true, lt-ltb}
use lib.Dec.{eqb, ltb}
use lib.ListN.{length, drop, length-drop}
use lib.Seq.{take_all}
use Rattle.fields.specs.Bytes.{byte_at, part, number2, number4, number8, all_zero}
use Rattle.fields.proofs.Both.{parts, both, same_truth, below_or}
use Rattle.fields.proofs.Meaning.{zero-part, part-zero}

module _ (s : List ℕ) (k : ℕ) where
  -- each of the n bytes from k on
  abbrev Zeros : ℕ → Type 0
  Zeros n = (i : ℕ) → k ≤ i → i < k + n → byte_at s i ≡ 0

  pub one-zero : eqb (byte_at s k) 0 ≡ all_zero (part s k 1)
  one-zero =
      same_truth _ _
      (λ e. part-zero s k 1 (λ i a b. let q : i ≡ k = omega arith in ap (byte_at s) q ∙ eqb-true _ 0 e))
      (λ e. eq-eqb _ 0 (zero-part s k 1 e k (omega arith) (omega arith)))

  -- two halves
  pub join-zero : (m n : ℕ) → all_zero (part s k (m + n)) ≡ (all_zero (part s k m) && all_zero (part s (k + m) n))
  join-zero m n =
      same_truth _ _
      (λ e. let z : Zeros (m + n) = zero-part s k (m + n) e in
      both _ _ (part-zero s k m (λ i a b. z i a (omega arith))) (part-zero s (k + m) n (λ i a b. z i (omega arith) (omega arith))))
      (λ e. let p = parts _ _ e in
      part-zero s k (m + n)
      (λ i a b. ⊎_elim (λ l. zero-part s k m p.0 i a l) (λ l. zero-part s (k + m) n p.1 i l (omega arith)) (below_or i (k + m))))

-- a sum is zero exactly if both numbers are; c is a multiple of b
sum-zero : (a b c : ℕ) → (c ≡ 0 → b ≡ 0) → (b ≡ 0 → c ≡ 0) → eqb (a + c) 0 ≡ (eqb a 0 && eqb b 0)
sum-zero a b c down up =
    same_truth _ _
    (λ e. let z : a + c ≡ 0 = eqb-true (a + c) 0 e in
    both _ _ (eq-eqb a 0 (omega arith)) (eq-eqb b 0 (down (omega arith))))
    (λ e. let p = parts _ _ e in
    let x : a ≡ 0 = eqb-true a 0 p.0 in
    let y : c ≡ 0 = up (eqb-true b 0 p.1) in
    eq-eqb (a + c) 0 (omega arith))

two-zero : (s : List ℕ) (k : ℕ) → eqb (number2 s k) 0 ≡ all_zero (part s k 2)
unfolding number2
two-zero s k =
    sum-zero (byte_at s k) (byte_at s (k + 1)) (256 * byte_at s (k + 1)) (λ e. omega arith) (λ e. omega arith)
    ∙ rw (one-zero s k, one-zero s (k + 1)) (sym (join-zero s k 1 1))

pub four-zero : (s : List ℕ) (k : ℕ) → eqb (number4 s k) 0 ≡ all_zero (part s k 4)
unfolding number4
four-zero s k =
    sum-zero (number2 s k) (number2 s (k + 2)) (65536 * number2 s (k + 2)) (λ e. omega arith) (λ e. omega arith)
    ∙ rw (two-zero s k, two-zero s (k + 2)) (sym (join-zero s k 2 2))

pub eight-zero : (s : List ℕ) (k : ℕ) → eqb (number8 s k) 0 ≡ all_zero (part s k 8)
unfolding number8
eight-zero s k =
    sum-zero (number4 s k) (number4 s (k + 4)) (4294967296 * number4 s (k + 4)) (λ e. omega arith) (λ e. omega arith)
    ∙ rw (four-zero s k, four-zero s (k + 4)) (sym (join-zero s k 4 4))

-- the bytes from k on, of which there are n
pub rest_part : (s : List ℕ) (k n : ℕ) → length s ≡ k + n → drop k s ≡ part s k n
rest_part s k n e = sym (take_all n (drop k s) (rw length-drop (omega arith)))

-- four bytes that make a number below n, which a byte holds: the first is below n, and the others are zero
pub low_byte : (s : List ℕ) (k n : ℕ) → n ≤ 256 → ltb (number4 s k) n ≡ (ltb (byte_at s k) n && all_zero (part s (k + 1) 3))
unfolding number4 number2
low_byte s k n few = same_truth _ _ down up
  where
    which : (i : ℕ) → k + 1 ≤ i → i < k + 1 + 3 → (i ≡ k + 1) ⊎ ((i ≡ k + 2) ⊎ (i ≡ k + 2 + 1))
    which i a b =
        ⊎_elim (λ l. inl (omega arith)) (λ l. inr (⊎_elim (λ m. inl (omega arith)) (λ m. inr (omega arith)) (below_or i (k + 3)))) (below_or i (k + 2))

    down : ltb (number4 s k) n ≡ true → (ltb (byte_at s k) n && all_zero (part s (k + 1) 3)) ≡ true
    down e =
        let l : number4 s k < n = ltb-true (number4 s k) n e in
        let two : byte_at s (k + 1) ≡ 0 = omega arith in
        let three : byte_at s (k + 2) ≡ 0 = omega arith in
        let four : byte_at s (k + 2 + 1) ≡ 0 = omega arith in
        both _ _ (lt-ltb (byte_at s k) n (omega arith))
        (part-zero s (k + 1) 3
        (λ i a b. ⊎_elim (λ q. ap (byte_at s) q ∙ two) (⊎_elim (λ q. ap (byte_at s) q ∙ three) (λ q. ap (byte_at s) q ∙ four)) (which i a b)))

    up : (ltb (byte_at s k) n && all_zero (part s (k + 1) 3)) ≡ true → ltb (number4 s k) n ≡ true
    up e =
        let p = parts _ _ e in
        let l : byte_at s k < n = ltb-true (byte_at s k) n p.0 in
        let z = zero-part s (k + 1) 3 p.1 in
        let two = z (k + 1) (omega arith) (omega arith) in
        let three = z (k + 2) (omega arith) (omega arith) in
        let four = z (k + 2 + 1) (omega arith) (omega arith) in
        lt-ltb (number4 s k) n (omega arith)
