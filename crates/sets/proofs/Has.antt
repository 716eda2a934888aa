-- Which places the result of each operation has, and that two sets with the same places are equal. A set is taken apart
-- into its lowest place and its half, the other places moved down by one; each law goes by induction on the place.
-- Assumes nothing.
use mathlib.Core.Path.{◌≡◌, refl, sym, ap, ap₂, ◌∙◌}
use mathlib.Core.Bool.{Bool, true, false, not, cond, ◌&&◌, ◌||◌, and-true, and-false, or-true, or-false, and-eq-true_iff}
use Prim.Native.Nat.{ℕ, zero, suc, ◌+◌, ◌-◌, ◌*◌, ◌/◌, ◌%◌, ◌^◌, ◌<◌, min, max}
use native.Mathlib.Nat.{div-one, zero-div, div-add-mod', div-div-eq-div-mul, mod-lt, zero-lt-suc, pow-succ', pow-suc, min-le_left, one-mul, add-zero}
use native.Mathlib.Numerals.{add-one}
use native.Mathlib.Omega.{arith}
use borrow.Author.Tests.{ltb-true, ltb-false, eqb-true, eqb-false, lt-ltb, le-ltb}
use lib.Arith.{bin_ind, digits_div, digits_mod, dbl_pred, lt_of_le-ne}
use lib.Bits.{bit_and, bit_or, bit_xor, differ, and_step, or_step, xor_step, and_le_l, or_shifted_r}
use lib.Dec.{eqb, ltb, eqb-zero-suc, eqb-suc-zero, eqb-suc-suc, leb-suc-suc, leb-suc-zero}
use lib.Pow.{pow_pos}
use Rattle.sets.specs.Sets.{has, none, one, all_below, union, intersection, difference, collect}

-- ---- the lowest place, and the half

pub has-zero : (s : ℕ) → has s 0 ≡ eqb (s % 2) 1
unfolding has
has-zero s = ap (λ (x : ℕ). eqb (x % 2) 1) (div-one s)

pub has-suc : (s p : ℕ) → has s (suc p) ≡ has (s / 2) p
unfolding has
has-suc s p =
    ap (λ (x : ℕ). eqb (x % 2) 1) (ap (λ (x : ℕ). s / x) (pow-succ' 2 p) ∙ sym (div-div-eq-div-mul s 2 (2 ^ p)))

two_pos : 0 < 2
two_pos = zero-lt-suc 1

doubled-zero : (h : ℕ) {d : ℕ} → d < 2 → has (h * 2 + d) 0 ≡ eqb d 1
doubled-zero h {d} k = has-zero (h * 2 + d) ∙ ap (λ (x : ℕ). eqb x 1) (digits_mod h k)

doubled-suc : (h p : ℕ) {d : ℕ} → d < 2 → has (h * 2 + d) (suc p) ≡ has h p
doubled-suc h p {d} k = has-suc (h * 2 + d) p ∙ ap (λ (x : ℕ). has x p) (digits_div h k)

-- ---- the empty set; sets with the same places

pub none_has : (p : ℕ) → has none p ≡ false
unfolding has
none_has p = ap (λ (x : ℕ). eqb (x % 2) 1) (zero-div (2 ^ p))

bit : (x : ℕ) → x < 2 → x ≡ cond (eqb x 1) 1 0
bit zero h = refl
bit (suc zero) h = refl
bit (suc (suc x)) h = absurd (omega arith)

-- equal digits and equal halves
same_digits : {a b : ℕ} → a / 2 ≡ b / 2 → has a 0 ≡ has b 0 → a ≡ b
same_digits {a} {b} h e =
    sym (div-add-mod' a 2) ∙ ap₂ (λ (x y : ℕ). x * 2 + y) h digit ∙ div-add-mod' b 2
  where
    digit : a % 2 ≡ b % 2
    digit =
        bit (a % 2) (mod-lt a two_pos)
        ∙ ap (λ (t : Bool). cond t 1 0) (sym (has-zero a) ∙ e ∙ has-zero b)
        ∙ sym (bit (b % 2) (mod-lt b two_pos))

zero-ext : (b : ℕ) → ((p : ℕ) → has 0 p ≡ has b p) → 0 ≡ b
zero-ext =
    bin_ind (λ (b : ℕ). ((p : ℕ) → has 0 p ≡ has b p) → 0 ≡ b) (λ f. refl)
    (λ b ih f. same_digits (ih (λ p. none_has p ∙ sym (none_has (suc p)) ∙ f (suc p) ∙ has-suc b p)) (f 0))

pub has-ext : (a b : ℕ) → ((p : ℕ) → has a p ≡ has b p) → a ≡ b
has-ext =
    bin_ind (λ (a : ℕ). (b : ℕ) → ((p : ℕ) → has a p ≡ has b p) → a ≡ b) zero-ext
    (λ a ih b f. same_digits (ih (b / 2) (λ p. sym (has-suc a p) ∙ f (suc p) ∙ has-suc b p)) (f 0))

-- a set that is not empty has a place
pub has_some : (s : ℕ) → (s ≡ 0 → ⊥) → (p : ℕ) × (has s p ≡ true)
has_some =
    bin_ind (λ (s : ℕ). (s ≡ 0 → ⊥) → (p : ℕ) × (has s p ≡ true)) (λ n. absurd (n refl))
    (λ s ih n. at s ih n (has s 0) refl)
  where
    at : (s : ℕ) → ((s / 2 ≡ 0 → ⊥) → (p : ℕ) × (has (s / 2) p ≡ true)) → (s ≡ 0 → ⊥) → (t : Bool) → has s 0 ≡ t
        → (p : ℕ) × (has s p ≡ true)
    at s ih n true h = (0, h)
    at s ih n false h =
        let q = ih (λ z. n (same_digits z (h ∙ sym (none_has 0)))) in
        (suc q.0, has-suc s q.0 ∙ q.1)

-- ---- one place; the places below n

twice : (a : ℕ) → a * 2 ≡ a * 2 + 0
twice a = omega arith

pub one_has : (q p : ℕ) → has (one q) p ≡ eqb q p
one_has zero zero = has-zero 1
one_has zero (suc p) = has-suc 1 p ∙ none_has p ∙ sym (eqb-zero-suc p)
one_has (suc q) zero =
    ap (λ (x : ℕ). has x 0) (pow-suc 2 q ∙ twice (2 ^ q)) ∙ doubled-zero (2 ^ q) two_pos ∙ sym (eqb-suc-zero q)
one_has (suc q) (suc p) =
    ap (λ (x : ℕ). has x (suc p)) (pow-suc 2 q ∙ twice (2 ^ q))
    ∙ doubled-suc (2 ^ q) p two_pos ∙ one_has q p ∙ sym (eqb-suc-suc q p)

ones : (n : ℕ) → 2 ^ suc n - 1 ≡ (2 ^ n - 1) * 2 + 1
ones n = ap (λ (x : ℕ). x - 1) (pow-suc 2 n) ∙ dbl_pred (pow_pos n)

pub all_below-has : (n p : ℕ) → has (all_below n) p ≡ ltb p n
unfolding all_below
all_below-has zero p = none_has p ∙ sym (leb-suc-zero p)
all_below-has (suc n) zero =
    ap (λ (x : ℕ). has x 0) (ones n) ∙ doubled-zero (2 ^ n - 1) (omega arith) ∙ sym (lt-ltb 0 (suc n) (zero-lt-suc n))
all_below-has (suc n) (suc p) =
    ap (λ (x : ℕ). has x (suc p)) (ones n)
    ∙ doubled-suc (2 ^ n - 1) p (omega arith) ∙ all_below-has n p ∙ sym (leb-suc-suc (suc p) n)

-- ---- an operation that goes digit by digit: d on numbers below 2, f on the tests

module _ (op d : ℕ → ℕ → ℕ) (f : Bool → Bool → Bool)
    (step : (a b : ℕ) → op a b ≡ op (a / 2) (b / 2) * 2 + d (a % 2) (b % 2))
    (small : (x y : ℕ) → x < 2 → y < 2 → (d x y < 2) × (eqb (d x y) 1 ≡ f (eqb x 1) (eqb y 1))) where
  digit : (a b : ℕ) → (d (a % 2) (b % 2) < 2) × (eqb (d (a % 2) (b % 2)) 1 ≡ f (eqb (a % 2) 1) (eqb (b % 2) 1))
  digit a b = small (a % 2) (b % 2) (mod-lt a two_pos) (mod-lt b two_pos)

  digits-has : (p a b : ℕ) → has (op a b) p ≡ f (has a p) (has b p)
  digits-has zero a b =
      ap (λ (x : ℕ). has x 0) (step a b)
      ∙ doubled-zero (op (a / 2) (b / 2)) (digit a b).0
      ∙ (digit a b).1 ∙ ap₂ f (sym (has-zero a)) (sym (has-zero b))
  digits-has (suc p) a b =
      ap (λ (x : ℕ). has x (suc p)) (step a b)
      ∙ doubled-suc (op (a / 2) (b / 2)) p (digit a b).0
      ∙ digits-has p (a / 2) (b / 2) ∙ ap₂ f (sym (has-suc a p)) (sym (has-suc b p))

-- what holds of two digits holds of two numbers below 2
pairs : (P : ℕ → ℕ → Type 0) → P 0 0 → P 0 1 → P 1 0 → P 1 1 → (x y : ℕ) → x < 2 → y < 2 → P x y
pairs P a b c d zero zero h k = a
pairs P a b c d zero (suc zero) h k = b
pairs P a b c d (suc zero) zero h k = c
pairs P a b c d (suc zero) (suc zero) h k = d
pairs P a b c d zero (suc (suc y)) h k = absurd (omega arith)
pairs P a b c d (suc zero) (suc (suc y)) h k = absurd (omega arith)
pairs P a b c d (suc (suc x)) y h k = absurd (omega arith)

pub union-has : (a b p : ℕ) → has (union a b) p ≡ (has a p || has b p)
union-has a b p = digits-has bit_or max (λ s t. s || t) or_step small p a b
  where
    small : (x y : ℕ) → x < 2 → y < 2 → (max x y < 2) × (eqb (max x y) 1 ≡ (eqb x 1 || eqb y 1))
    small =
        pairs (λ (x y : ℕ). (max x y < 2) × (eqb (max x y) 1 ≡ (eqb x 1 || eqb y 1)))
        (omega arith, refl) (omega arith, refl) (omega arith, refl) (omega arith, refl)

pub intersection-has : (a b p : ℕ) → has (intersection a b) p ≡ (has a p && has b p)
intersection-has a b p = digits-has bit_and min (λ s t. s && t) and_step small p a b
  where
    small : (x y : ℕ) → x < 2 → y < 2 → (min x y < 2) × (eqb (min x y) 1 ≡ (eqb x 1 && eqb y 1))
    small =
        pairs (λ (x y : ℕ). (min x y < 2) × (eqb (min x y) 1 ≡ (eqb x 1 && eqb y 1)))
        (omega arith, refl) (omega arith, refl) (omega arith, refl) (omega arith, refl)

-- the places of one of two sets alone
pub apart-has : (a b p : ℕ) → has (bit_xor a b) p ≡ cond (has a p) (not (has b p)) (has b p)
apart-has a b p = digits-has bit_xor differ (λ s t. cond s (not t) t) xor_step small p a b
  where
    small : (x y : ℕ) → x < 2 → y < 2 → (differ x y < 2) × (eqb (differ x y) 1 ≡ cond (eqb x 1) (not (eqb y 1)) (eqb y 1))
    small =
        pairs (λ (x y : ℕ). (differ x y < 2) × (eqb (differ x y) 1 ≡ cond (eqb x 1) (not (eqb y 1)) (eqb y 1)))
        (omega arith, refl) (omega arith, refl) (omega arith, refl) (omega arith, refl)

pub intersection-both : (a b p : ℕ) → has (intersection a b) p ≡ true → (has a p ≡ true) × (has b p ≡ true)
intersection-both a b p h = (and-eq-true_iff (has a p) (has b p)).0 (sym (intersection-has a b p) ∙ h)

-- a difference of digits never borrows: a digit of the intersection is at most that of a
difference-step : (a b : ℕ) → difference a b ≡ difference (a / 2) (b / 2) * 2 + (a % 2 - min (a % 2) (b % 2))
unfolding difference
difference-step a b = omega (arith, and_step a b, and_le_l (a / 2) (b / 2), div-add-mod' a 2, min-le_left (a % 2) (b % 2))

pub difference-has : (a b p : ℕ) → has (difference a b) p ≡ (has a p && not (has b p))
difference-has a b p = digits-has difference (λ x y. x - min x y) (λ s t. s && not t) difference-step small p a b
  where
    small : (x y : ℕ) → x < 2 → y < 2 → (x - min x y < 2) × (eqb (x - min x y) 1 ≡ (eqb x 1 && not (eqb y 1)))
    small =
        pairs (λ (x y : ℕ). (x - min x y < 2) × (eqb (x - min x y) 1 ≡ (eqb x 1 && not (eqb y 1))))
        (omega arith, refl) (omega arith, refl) (omega arith, refl) (omega arith, refl)

-- ---- the places at which a test is true

pub collect-below : (f : ℕ → Bool) (n : ℕ) → collect f n < 2 ^ n
unfolding collect
collect-below f zero = omega arith
collect-below f (suc n) = at (f n) (collect-below f n)
  where
    at : (t : Bool) → collect f n < 2 ^ n → collect f n + cond t (2 ^ n) 0 < 2 ^ suc n
    at true h = omega (arith, pow-suc 2 n)
    at false h = omega (arith, pow-suc 2 n)

-- a place above those of s is put in by a sum
sum-union : (s n : ℕ) → s < 2 ^ n → s + 2 ^ n ≡ union s (one n)
sum-union s n h = omega (arith, rw one-mul at (or_shifted_r 1 n s h))

added-has : (s n p : ℕ) → s < 2 ^ n → (t : Bool) → has (s + cond t (2 ^ n) 0) p ≡ cond t (has s p || eqb n p) (has s p)
added-has s n p h true =
    ap (λ (x : ℕ). has x p) (sum-union s n h)
    ∙ union-has s (one n) p ∙ ap (λ (t : Bool). has s p || t) (one_has n p)
added-has s n p h false = ap (λ (x : ℕ). has x p) (add-zero s)

ltb-suc : (p n : ℕ) → ltb p (suc n) ≡ (ltb p n || eqb n p)
ltb-suc p n = at (ltb p n) (eqb n p) refl refl
  where
    at : (l e : Bool) → ltb p n ≡ l → eqb n p ≡ e → ltb p (suc n) ≡ (l || e)
    at true e h k = lt-ltb p (suc n) (omega (arith, ltb-true p n h))
    at false true h k = lt-ltb p (suc n) (omega (arith, eqb-true n p k))
    at false false h k = le-ltb p (suc n) (lt_of_le-ne (ltb-false p n h) (eqb-false n p k))

-- u, the test at a place, is t where the place is the new one
settled : (t e l u : Bool) → (e ≡ true → u ≡ t) → cond t (l && u || e) (l && u) ≡ ((l || e) && u)
settled true true l u h = simp (h refl, and-true, or-true)
settled true false l u h = simp or-false
settled false true l u h = simp (h refl, and-false)
settled false false l u h = simp or-false

pub collect-has : (f : ℕ → Bool) (n p : ℕ) → has (collect f n) p ≡ (ltb p n && f p)
unfolding collect
collect-has f zero p = none_has p ∙ rw (leb-suc-zero p)
collect-has f (suc n) p =
    added-has (collect f n) n p (collect-below f n) (f n)
    ∙ rw (collect-has f n p, ltb-suc p n)
    (settled (f n) (eqb n p) (ltb p n) (f p) (λ e. ap f (sym (eqb-true n p e))))

pub collect-true : (f : ℕ → Bool) (n p : ℕ) → has (collect f n) p ≡ true → (p < n) × (f p ≡ true)
collect-true f n p h =
    let q = (and-eq-true_iff (ltb p n) (f p)).0 (sym (collect-has f n p) ∙ h) in
    (ltb-true p n q.0, q.1)

pub true-collect : (f : ℕ → Bool) (n p : ℕ) → p < n → f p ≡ true → has (collect f n) p ≡ true
true-collect f n p h e = collect-has f n p ∙ ap₂ (λ (s t : Bool). s && t) (lt-ltb p n h) e

-- a loop that collects: at place n it puts n in, or passes over it
pub collect-put : (f : ℕ → Bool) (n : ℕ) → f n ≡ true → collect f (n + 1) ≡ union (collect f n) (one n)
unfolding collect
collect-put f n e = rw (add-one, e) (sum-union (collect f n) n (collect-below f n))

pub collect-pass : (f : ℕ → Bool) (n : ℕ) → f n ≡ false → collect f (n + 1) ≡ collect f n
unfolding collect
collect-pass f n e = rw (add-one, e) (add-zero (collect f n))
