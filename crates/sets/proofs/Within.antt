-- Inclusion. `within a b` is true exactly if b has every place of a; it orders the sets, with `union` and `intersection`
-- as least upper and greatest lower bounds. Assumes nothing.
use mathlib.Core.Path.{◌≡◌, refl, sym, ap, ap₂, ◌∙◌}
use mathlib.Core.Bool.{Bool, true, false, not, ◌&&◌, ◌||◌, or-true, true≢false, and-eq-true_iff}
use Prim.Native.Nat.{ℕ, ◌≤◌}
use native.Mathlib.Nat.{le_trans, le_of_eq}
use borrow.Author.Tests.{eqb-true, eq-eqb}
use lib.Bits.{bit_and, and_comm, and_self, and_le_r}
use Rattle.sets.specs.Sets.{has, none, union, intersection, difference, within}
use Rattle.sets.proofs.Has.{has-ext, union-has, intersection-has, intersection-both, difference-has}

within-eq : (a b : ℕ) → within a b ≡ true → intersection a b ≡ a
unfolding within
within-eq a b w = eqb-true (bit_and a b) a w

eq-within : (a b : ℕ) → intersection a b ≡ a → within a b ≡ true
unfolding within
eq-within a b e = eq-eqb (bit_and a b) a e

-- ---- by places

pub within_has : (a b : ℕ) → within a b ≡ true → (p : ℕ) → has a p ≡ true → has b p ≡ true
within_has a b w p h =
    sym (ap (λ (t : Bool). t && has b p) h) ∙ sym (intersection-has a b p) ∙ ap (λ (x : ℕ). has x p) (within-eq a b w) ∙ h

pub has_within : (a b : ℕ) → ((p : ℕ) → has a p ≡ true → has b p ≡ true) → within a b ≡ true
has_within a b f =
    eq-within a b (has-ext (intersection a b) a (λ p. intersection-has a b p ∙ at (has a p) (has b p) (f p)))
  where
    at : (s t : Bool) → (s ≡ true → t ≡ true) → (s && t) ≡ s
    at true t h = h refl
    at false t h = refl

-- ---- as an order

pub within-refl : (a : ℕ) → within a a ≡ true
within-refl a = eq-within a a (and_self a)

pub within-trans : (a b c : ℕ) → within a b ≡ true → within b c ≡ true → within a c ≡ true
within-trans a b c v w = has_within a c (λ p h. within_has b c w p (within_has a b v p h))

pub within-antisym : (a b : ℕ) → within a b ≡ true → within b a ≡ true → a ≡ b
within-antisym a b v w = sym (within-eq a b v) ∙ and_comm a b ∙ within-eq b a w

pub within_none : (b : ℕ) → within none b ≡ true
within_none b = eq-within none b refl

-- a part is at most the whole, as a number
pub within-le : (a b : ℕ) → within a b ≡ true → a ≤ b
within-le a b w = le_trans (le_of_eq (sym (within-eq a b w))) (and_le_r a b)

-- ---- with the operations

pub intersection-within-left : (a b : ℕ) → within (intersection a b) a ≡ true
intersection-within-left a b = has_within (intersection a b) a (λ p h. (intersection-both a b p h).0)

pub intersection-within-right : (a b : ℕ) → within (intersection a b) b ≡ true
intersection-within-right a b = has_within (intersection a b) b (λ p h. (intersection-both a b p h).1)

pub within-intersection : (a b c : ℕ) → within c a ≡ true → within c b ≡ true → within c (intersection a b) ≡ true
within-intersection a b c v w =
    has_within c (intersection a b)
    (λ p h. intersection-has a b p ∙ ap₂ (λ (s t : Bool). s && t) (within_has c a v p h) (within_has c b w p h))

pub within-union-left : (a b : ℕ) → within a (union a b) ≡ true
within-union-left a b = has_within a (union a b) (λ p h. union-has a b p ∙ ap (λ (s : Bool). s || has b p) h)

pub within-union-right : (a b : ℕ) → within b (union a b) ≡ true
within-union-right a b =
    has_within b (union a b) (λ p h. union-has a b p ∙ ap (λ (t : Bool). has a p || t) h ∙ or-true (has a p))

pub within-union-both : (a b c : ℕ) → within a c ≡ true → within b c ≡ true → within (union a b) c ≡ true
within-union-both a b c v w =
    has_within (union a b) c
    (λ p h. at (has a p) (has b p) (within_has a c v p) (within_has b c w p) (sym (union-has a b p) ∙ h))
  where
    at : {u : Bool} → (s t : Bool) → (s ≡ true → u ≡ true) → (t ≡ true → u ≡ true) → (s || t) ≡ true → u ≡ true
    at true t f g e = f refl
    at false t f g e = g e

pub difference-within : (a b : ℕ) → within (difference a b) a ≡ true
difference-within a b = has_within (difference a b) a (λ p h. ((and-eq-true_iff (has a p) (not (has b p))).0 (sym (difference-has a b p) ∙ h)).0)

-- places of a that b has too may be left out
pub difference-within-same : (a b c : ℕ) → ((p : ℕ) → has a p ≡ true → has c p ≡ true → has b p ≡ true)
    → within (difference a c) b ≡ within a b
difference-within-same a b c f = at (within a b) refl
  where
    rest : within (difference a c) b ≡ true → (p : ℕ) → has a p ≡ true → (t : Bool) → has c p ≡ t → has b p ≡ true
    rest w p h true e = f p h e
    rest w p h false e =
        within_has (difference a c) b w p (difference-has a c p ∙ ap₂ (λ (s t : Bool). s && not t) h e)

    at : (t : Bool) → within a b ≡ t → within (difference a c) b ≡ t
    at true w = within-trans (difference a c) a b (difference-within a c) w
    at false w = under (within (difference a c) b) refl
      where
        under : (t : Bool) → within (difference a c) b ≡ t → t ≡ false
        under true v = absurd (true≢false (sym (has_within a b (λ p h. rest v p h (has c p) refl)) ∙ w))
        under false v = refl

-- a place of a that b lacks
pub lacks-within : (a b p : ℕ) → has a p ≡ true → has b p ≡ false → within a b ≡ false
lacks-within a b p h k = at (within a b) refl
  where
    at : (t : Bool) → within a b ≡ t → t ≡ false
    at true w = absurd (true≢false (sym (within_has a b w p h) ∙ k))
    at false w = refl
