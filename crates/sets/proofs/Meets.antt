-- Common places and empty sets. `meets a b` is true exactly if some place is in a and in b. Assumes nothing.
use mathlib.Core.Path.{◌≡◌, sym, ap, ap₂, ◌∙◌}
use mathlib.Core.Bool.{Bool, true, false, not, ◌&&◌, true≢false}
use Prim.Native.Nat.{ℕ}
use borrow.Author.Tests.{eqb-true, eqb-false, ne_eqb, not-true}
use lib.Bits.{bit_and}
use lib.Dec.{eqb}
use Rattle.sets.specs.Sets.{has, none, intersection, within, meets, empty}
use Rattle.sets.proofs.Has.{has_some, none_has, intersection-has, intersection-both}
use Rattle.sets.proofs.Within.{within_has}

-- ---- empty sets

pub empty-none : (s : ℕ) → empty s ≡ true → s ≡ none
unfolding empty
empty-none s e = eqb-true s 0 e

pub empty-lacks : (s : ℕ) → empty s ≡ true → (p : ℕ) → has s p ≡ false
empty-lacks s e p = ap (λ (x : ℕ). has x p) (empty-none s e) ∙ none_has p

pub empty-place : (s : ℕ) → empty s ≡ false → (p : ℕ) × (has s p ≡ true)
unfolding empty
empty-place s e = has_some s (eqb-false s 0 e)

-- ---- a place in common

pub meets-place : (a b : ℕ) → meets a b ≡ true → (p : ℕ) × ((has a p ≡ true) × (has b p ≡ true))
unfolding meets
meets-place a b m =
    let q = has_some (bit_and a b) (eqb-false (bit_and a b) 0 (not-true (eqb (bit_and a b) 0) m)) in
    (q.0, intersection-both a b q.0 q.1)

pub place-meets : (a b p : ℕ) → has a p ≡ true → has b p ≡ true → meets a b ≡ true
unfolding meets
place-meets a b p h k = ap not (ne_eqb (bit_and a b) 0 (λ e. true≢false (sym in_both ∙ ap (λ (x : ℕ). has x p) e ∙ none_has p)))
  where
    in_both : has (intersection a b) p ≡ true
    in_both = intersection-has a b p ∙ ap₂ (λ (s t : Bool). s && t) h k

-- larger sets meet where smaller ones do
pub meets-mono : (a b c d : ℕ) → within a c ≡ true → within b d ≡ true → meets a b ≡ true → meets c d ≡ true
meets-mono a b c d v w m =
    let q = meets-place a b m in
    place-meets c d q.0 (within_has a c v q.0 q.1.0) (within_has b d w q.0 q.1.1)
