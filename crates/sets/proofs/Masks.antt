-- Masks of the steps in which a square is transposed, and the bits of the two rows that a step makes of two. Assumes nothing.
use Prim.Native.Nat.{ℕ, ◌+◌, ◌-◌, ◌*◌, ◌/◌, ◌%◌, ◌^◌, ◌≤◌, ◌<◌}
use mathlib.Core.Path.{◌≡◌, refl, sym, ap, ◌∙◌}
use mathlib.Core.Bool.{Bool, true, false, cond, not, ◌&&◌, ◌||◌, and-true, and-false, and-eq-true_iff}
use native.Mathlib.Nat.{add-zero, add_comm}
use native.Mathlib.Omega.{arith}
use borrow.Author.Tests.{eqb-true, ltb-true, ltb-false, lt-ltb, not-true}
use lib.Bits.{bit_xor}
use lib.Dec.{eqb, ltb}
use lib.Pow.{pow_pos, low, shl-shr}
use Rattle.sets.specs.Sets.{has, all_below, collect}
use Rattle.sets.specs.Transposed.{mixed, low_row, high_row}
use Rattle.sets.proofs.Has.{none_has, all_below-has, apart-has, intersection-has, collect-true}
use Rattle.sets.proofs.Words.{moved-has, low_same}

-- ---- places that are moved up by s
pub raised-low : (x s p : ℕ) → p < s → has (x * 2 ^ s) p ≡ false
raised-low x s p h =
    sym (low_same (x * 2 ^ s) s p h) ∙ ap (λ (y : ℕ). has y p) (ap (λ (y : ℕ). y % 2 ^ s) (sym (add-zero (x * 2 ^ s))) ∙ low x s (pow_pos s)) ∙ none_has p

pub raised-has : (x s p : ℕ) → s ≤ p → has (x * 2 ^ s) p ≡ has x (p - s)
raised-has x s p h =
    let is : p ≡ s + (p - s) = omega arith in
    ap (has (x * 2 ^ s)) is ∙ sym (moved-has (x * 2 ^ s) s (p - s)) ∙ ap (λ (y : ℕ). has y (p - s)) (shl-shr x s)

-- ---- masks: the places p with an even p / s. Moved by s they are the others
unfoldable pub mask_fits : (s mask p : ℕ) → Bool
mask_fits s mask p =
    cond (has mask p) (eqb (p / s % 2) 0 && ltb (p + s) 64 && (ltb p s || not (has mask (p - s))))
    (eqb (p / s % 2) 1 && not (ltb p s) && has mask (p - s))

abbrev pub Fits : (s mask : ℕ) → Type 0
Fits s mask = (p : ℕ) → p < 64 → mask_fits s mask p ≡ true

fits_all : (s mask : ℕ) → collect (mask_fits s mask) 64 ≡ all_below 64 → Fits s mask
fits_all s mask all p h = (collect-true (mask_fits s mask) 64 p (ap (λ (x : ℕ). has x p) all ∙ all_below-has 64 p ∙ lt-ltb p 64 h)).1

-- each mask that a stage has
pub fits-32 : Fits 32 0x00000000ffffffff
unfolding mask_fits has collect all_below
fits-32 = fits_all 32 0x00000000ffffffff refl

pub fits_16 : Fits 16 0x0000ffff0000ffff
unfolding mask_fits has collect all_below
fits_16 = fits_all 16 0x0000ffff0000ffff refl

pub fits_8 : Fits 8 0x00ff00ff00ff00ff
unfolding mask_fits has collect all_below
fits_8 = fits_all 8 0x00ff00ff00ff00ff refl

pub fits-4 : Fits 4 0x0f0f0f0f0f0f0f0f
unfolding mask_fits has collect all_below
fits-4 = fits_all 4 0x0f0f0f0f0f0f0f0f refl

pub fits-2 : Fits 2 0x3333333333333333
unfolding mask_fits has collect all_below
fits-2 = fits_all 2 0x3333333333333333 refl

pub fits-1 : Fits 1 0x5555555555555555
unfolding mask_fits has collect all_below
fits-1 = fits_all 1 0x5555555555555555 refl

-- ---- truth values that differ
alone : (t : Bool) → cond t (not false) false ≡ t
alone true = refl
alone false = refl

twice : (t u : Bool) → cond t (not (cond t (not u) u)) (cond t (not u) u) ≡ u
twice true true = refl
twice true false = refl
twice false u = refl

swapped : (t u : Bool) → cond t (not (cond u (not t) t)) (cond u (not t) t) ≡ u
swapped true true = refl
swapped true false = refl
swapped false true = refl
swapped false false = refl

module _ (s mask p : ℕ) where
  -- what a mask says of a place of it
  pub in-mask : mask_fits s mask p ≡ true → has mask p ≡ true → (p / s % 2 ≡ 0) × ((p + s < 64) × ((s ≤ p → has mask (p - s) ≡ false)))
  unfolding mask_fits
  in-mask fits h =
      let all = sym (ap (λ (t : Bool). cond t even odd) h) ∙ fits in
      let both = (and-eq-true_iff (eqb (p / s % 2) 0 && ltb (p + s) 64) (ltb p s || not (has mask (p - s)))).0 all in
      let first = (and-eq-true_iff (eqb (p / s % 2) 0) (ltb (p + s) 64)).0 both.0 in
      (eqb-true (p / s % 2) 0 first.0, (ltb-true (p + s) 64 first.1, λ l. lower (ltb p s) refl (has mask (p - s)) refl l both.1))
    where
      even : Bool
      even = eqb (p / s % 2) 0 && ltb (p + s) 64 && (ltb p s || not (has mask (p - s)))

      odd : Bool
      odd = eqb (p / s % 2) 1 && not (ltb p s) && has mask (p - s)

      lower : (t : Bool) → ltb p s ≡ t → (u : Bool) → has mask (p - s) ≡ u → s ≤ p → (t || not u) ≡ true → u ≡ false
      lower true e u k l f = absurd (omega (arith, ltb-true p s e))
      lower false e true k l f = sym f
      lower false e false k l f = refl

  -- and of a place that is not in it
  pub off-mask : mask_fits s mask p ≡ true → has mask p ≡ false → (p / s % 2 ≡ 1) × ((s ≤ p) × (has mask (p - s) ≡ true))
  unfolding mask_fits
  off-mask fits h =
      let all = sym (ap (λ (t : Bool). cond t even odd) h) ∙ fits in
      let both = (and-eq-true_iff (eqb (p / s % 2) 1 && not (ltb p s)) (has mask (p - s))).0 all in
      let first = (and-eq-true_iff (eqb (p / s % 2) 1) (not (ltb p s))).0 both.0 in
      (eqb-true (p / s % 2) 1 first.0, (ltb-false p s (not-true (ltb p s) first.1), both.1))
    where
      even : Bool
      even = eqb (p / s % 2) 0 && ltb (p + s) 64 && (ltb p s || not (has mask (p - s)))

      odd : Bool
      odd = eqb (p / s % 2) 1 && not (ltb p s) && has mask (p - s)

  -- ---- the bits of the two rows that a stage makes of two
  module _ (a b : ℕ) (h : p < 64) (fits : mask_fits s mask p ≡ true) where
    -- where a and b differ
    mixed-has : (q : ℕ) → has (mixed s mask a b) q ≡ (cond (has a (s + q)) (not (has b q)) (has b q) && has mask q)
    unfolding mixed
    mixed-has q =
        intersection-has (bit_xor (a / 2 ^ s) b) mask q
        ∙ ap (λ (t : Bool). t && has mask q) (apart-has (a / 2 ^ s) b q ∙ ap (λ (t : Bool). cond t (not (has b q)) (has b q)) (moved-has a s q))

    mixed-in : (q : ℕ) → has mask q ≡ true → has (mixed s mask a b) q ≡ cond (has a (s + q)) (not (has b q)) (has b q)
    mixed-in q m =
        mixed-has q ∙ ap (λ (t : Bool). cond (has a (s + q)) (not (has b q)) (has b q) && t) m
        ∙ and-true (cond (has a (s + q)) (not (has b q)) (has b q))

    mixed-off : (q : ℕ) → has mask q ≡ false → has (mixed s mask a b) q ≡ false
    mixed-off q m =
        mixed-has q ∙ ap (λ (t : Bool). cond (has a (s + q)) (not (has b q)) (has b q) && t) m
        ∙ and-false (cond (has a (s + q)) (not (has b q)) (has b q))

    raised-mixed : s ≤ p → has (mixed s mask a b * 2 ^ s % 2 ^ 64) p ≡ has (mixed s mask a b) (p - s)
    raised-mixed l = low_same (mixed s mask a b * 2 ^ s) 64 p h ∙ raised-has (mixed s mask a b) s p l

    raised-none : has mask p ≡ true → (t : Bool) → ltb p s ≡ t → has (mixed s mask a b * 2 ^ s % 2 ^ 64) p ≡ false
    raised-none m true e = low_same (mixed s mask a b * 2 ^ s) 64 p h ∙ raised-low (mixed s mask a b) s p (ltb-true p s e)
    raised-none m false e =
        let l = ltb-false p s e in
        raised-mixed l ∙ mixed-off (p - s) ((in-mask fits m).1.1 l)

    low-has : has (low_row s mask a b) p
        ≡ cond (has a p) (not (has (mixed s mask a b * 2 ^ s % 2 ^ 64) p)) (has (mixed s mask a b * 2 ^ s % 2 ^ 64) p)
    unfolding low_row
    low-has = apart-has a (mixed s mask a b * 2 ^ s % 2 ^ 64) p

    high-has : has (high_row s mask a b) p ≡ cond (has b p) (not (has (mixed s mask a b) p)) (has (mixed s mask a b) p)
    unfolding high_row
    high-has = apart-has b (mixed s mask a b) p

    pub low-in : has mask p ≡ true → has (low_row s mask a b) p ≡ has a p
    low-in m = low-has ∙ ap (λ (t : Bool). cond (has a p) (not t) t) (raised-none m (ltb p s) refl) ∙ alone (has a p)

    pub low-off : has mask p ≡ false → has (low_row s mask a b) p ≡ has b (p - s)
    low-off m =
        let off = off-mask fits m in
        let l = off.1.0 in
        let is : s + (p - s) ≡ p = omega arith in
        let there = raised-mixed l ∙ mixed-in (p - s) off.1.1 ∙ ap (λ (x : ℕ). cond (has a x) (not (has b (p - s))) (has b (p - s))) is in
        low-has ∙ ap (λ (t : Bool). cond (has a p) (not t) t) there ∙ twice (has a p) (has b (p - s))

    pub high-in : has mask p ≡ true → has (high_row s mask a b) p ≡ has a (p + s)
    high-in m =
        high-has ∙ ap (λ (t : Bool). cond (has b p) (not t) t) (mixed-in p m) ∙ swapped (has b p) (has a (s + p)) ∙ ap (has a) (add_comm s p)

    pub high-off : has mask p ≡ false → has (high_row s mask a b) p ≡ has b p
    high-off m = high-has ∙ ap (λ (t : Bool). cond (has b p) (not t) t) (mixed-off p m) ∙ alone (has b p)
