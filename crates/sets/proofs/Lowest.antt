-- The lowest place: the trailing zeros of a word count up to it, there is only one, and a set without it is smaller.
-- Assumes nothing.
use mathlib.Core.Path.{◌≡◌, refl, sym, ap, ◌∙◌}
use mathlib.Core.Bool.{Bool, true, false, not, ◌&&◌, true≢false}
use Prim.Native.Nat.{ℕ, zero, suc, ◌/◌, ◌%◌, ◌^◌, ◌<◌, zero-le, suc-le-suc}
use native.Mathlib.Nat.{sub-le, mod-lt, lt_of_not-le, le_of_suc-le-suc, zero-lt-suc}
use native.Mathlib.Omega.{arith}
use borrow.Author.Tests.{eq-eqb, ltb-true, ltb-false}
use lib.Arith.{lt_of_le-ne}
use lib.Bits.{bit_and}
use lib.Count.{count_trailing_zeros, under}
use lib.Dec.{eqb, ltb}
use Rattle.sets.specs.Sets.{has, one, difference, empty, Lowest}
use Rattle.sets.proofs.Has.{has-zero, has-suc, one_has, difference-has}
use Rattle.sets.proofs.Meets.{empty-place}
use Rattle.sets.proofs.Bounds.{below-has}

-- ---- the zeros below the lowest place of a word

step : (k s d : ℕ) → s % 2 ≡ d → d < 2 → (t : ℕ) → Lowest k (s / 2) t → Lowest (suc k) s (under d t)
step k s zero e h t l = record { upto = suc-le-suc l.upto; here = at_here; lower = at-lower }
  where
    at_here : suc t < suc k → has s (suc t) ≡ true
    at_here m = has-suc s t ∙ l.here (le_of_suc-le-suc m)

    at-lower : (q : ℕ) → q < suc t → has s q ≡ false
    at-lower zero m = has-zero s ∙ ap (λ (x : ℕ). eqb x 1) e
    at-lower (suc q) m = has-suc s q ∙ l.lower q (le_of_suc-le-suc m)
step k s (suc zero) e h t l =
    record { upto = zero-le; here = λ m. has-zero s ∙ ap (λ (x : ℕ). eqb x 1) e; lower = λ q m. absurd (omega arith) }
step k s (suc (suc d)) e h t l = absurd (omega arith)

pub trailing-lowest : (k s : ℕ) → Lowest k s (count_trailing_zeros k s)
unfolding count_trailing_zeros
trailing-lowest zero s = record { upto = zero-le; here = λ m. absurd (omega arith); lower = λ q m. absurd (omega arith) }
trailing-lowest (suc k) s =
    step k s (s % 2) refl (mod-lt s (zero-lt-suc 1)) (count_trailing_zeros k (s / 2)) (trailing-lowest k (s / 2))

-- ---- what the lowest place of a set below 2 ^ n is

module _ (n s p : ℕ) (l : Lowest n s p) where
  -- of a set that is not empty: a place of it
  pub lowest-in : s < 2 ^ n → empty s ≡ false → (p < n) × (has s p ≡ true)
  lowest-in h e = (inside, l.here inside)
    where
      inside : p < n
      inside =
          lt_of_not-le
          (λ k.
          let q = empty-place s e in
          let m : q.0 < p = omega (arith, below-has s n h q.0 q.1) in
          true≢false (sym q.1 ∙ l.lower q.0 m))

  -- there is only one
  not_lower : (q : ℕ) → Lowest n s q → q < p → ⊥
  not_lower q m k = true≢false (sym (m.here (omega (arith, l.upto))) ∙ l.lower q k)

pub lowest-same : (n s p q : ℕ) → Lowest n s p → Lowest n s q → p ≡ q
lowest-same n s p q l m = at (ltb p q) (ltb q p) refl refl
  where
    at : (t u : Bool) → ltb p q ≡ t → ltb q p ≡ u → p ≡ q
    at true u h k = absurd (not_lower n s q m p l (ltb-true p q h))
    at false true h k = absurd (not_lower n s p l q m (ltb-true q p k))
    at false false h k = omega (arith, ltb-false p q h, ltb-false q p k)

-- ---- a set without a place

pub without-lacks : (s p : ℕ) → has (difference s (one p)) p ≡ false
without-lacks s p = difference-has s (one p) p ∙ at (has s p)
  where
    at : (t : Bool) → (t && not (has (one p) p)) ≡ false
    at true = ap not (one_has p p ∙ eq-eqb p p refl)
    at false = refl

-- without one of its places it is smaller, so that a loop which takes place after place ends
pub without-smaller : (s p : ℕ) → has s p ≡ true → difference s (one p) < s
unfolding difference
without-smaller s p h =
    lt_of_le-ne (sub-le s (bit_and s (one p)))
    (λ e. true≢false (sym h ∙ ap (λ (x : ℕ). has x p) (sym e) ∙ without-lacks s p))
