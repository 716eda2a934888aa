-- The sets of places below n are the numbers below 2 ^ n, and every operation on such sets gives such a set.
-- Assumes nothing.
use mathlib.Core.Path.{◌≡◌, refl, sym, ap, ◌∙◌, subst}
use mathlib.Core.Bool.{Bool, true, false, ◌&&◌, true≢false}
use Prim.Native.Nat.{ℕ, ◌-◌, ◌*◌, ◌%◌, ◌^◌, ◌≤◌, ◌<◌}
use native.Mathlib.Nat.{lt_of_le_of_lt, lt_of_lt_of_le, sub-le, mod-lt, mod-eq_of_lt, div-eq_of_lt, lt_of_not-le, one-mul}
use borrow.Author.Tests.{eqb-true, eq-eqb, ltb-false}
use lib.Bits.{bit_and, and_mask, and_le_l, or_lt}
use lib.Dec.{eqb, ltb}
use lib.Pow.{pow_pos, pow-lt, pow_mono, ones_lt}
use Rattle.sets.specs.Sets.{has, none, one, all_below, union, intersection, difference, within, collect}
use Rattle.sets.proofs.Has.{has-ext, collect-has}
use Rattle.sets.proofs.Within.{within-le}

-- ---- places and numbers

pub below-lacks : (s n : ℕ) → s < 2 ^ n → (p : ℕ) → n ≤ p → has s p ≡ false
unfolding has
below-lacks s n h p k = ap (λ (x : ℕ). eqb (x % 2) 1) (div-eq_of_lt (lt_of_lt_of_le h (pow_mono k)))

pub below-has : (s n : ℕ) → s < 2 ^ n → (p : ℕ) → has s p ≡ true → p < n
below-has s n h p k = lt_of_not-le (λ l. true≢false (sym k ∙ below-lacks s n h p l))

pub below-within : (s n : ℕ) → s < 2 ^ n → within s (all_below n) ≡ true
unfolding within all_below
below-within s n h = eq-eqb (bit_and s (2 ^ n - 1)) s (and_mask s n ∙ mod-eq_of_lt h)

pub within-below : (s n : ℕ) → within s (all_below n) ≡ true → s < 2 ^ n
unfolding within all_below
within-below s n w =
    subst (λ (x : ℕ). x < 2 ^ n) (sym (and_mask s n) ∙ eqb-true (bit_and s (2 ^ n - 1)) s w) (mod-lt s (pow_pos n))

-- a part of a set
pub part-below : (a b n : ℕ) → within a b ≡ true → b < 2 ^ n → a < 2 ^ n
part-below a b n w h = lt_of_le_of_lt (within-le a b w) h

-- ---- the operations

pub none_below : (n : ℕ) → none < 2 ^ n
none_below n = pow_pos n

pub one_below : (p n : ℕ) → p < n → one p < 2 ^ n
one_below p n h = pow-lt h

-- a word's one, moved up to place p
pub one_shifted : (p n : ℕ) → p < n → 1 * 2 ^ p % 2 ^ n ≡ one p
one_shifted p n h = ap (λ (x : ℕ). x % 2 ^ n) (one-mul (2 ^ p)) ∙ mod-eq_of_lt (one_below p n h)

pub all_below-below : (m n : ℕ) → m ≤ n → all_below m < 2 ^ n
unfolding all_below
all_below-below m n h = lt_of_lt_of_le (ones_lt m) (pow_mono h)

pub union-below : (a b n : ℕ) → a < 2 ^ n → b < 2 ^ n → union a b < 2 ^ n
union-below a b n h k = or_lt n a b h k

pub intersection-below : (a b n : ℕ) → a < 2 ^ n → intersection a b < 2 ^ n
intersection-below a b n h = lt_of_le_of_lt (and_le_l a b) h

pub difference_below : (a b n : ℕ) → a < 2 ^ n → difference a b < 2 ^ n
unfolding difference
difference_below a b n h = lt_of_le_of_lt (sub-le a (bit_and a b)) h

-- ---- collecting

-- a set of places below n is collected again
pub collect-self : (s n : ℕ) → s < 2 ^ n → collect (has s) n ≡ s
collect-self s n h = has-ext (collect (has s) n) s (λ p. collect-has (has s) n p ∙ at p (ltb p n) refl)
  where
    at : (p : ℕ) (t : Bool) → ltb p n ≡ t → (t && has s p) ≡ has s p
    at p true k = refl
    at p false k = sym (below-lacks s n h p (ltb-false p n k))
