-- A walk along parents that ends takes no more steps than there are groups: it meets a different group at each step, since
-- the steps that are left differ. So the rule of ends asks for an ancestor with no parent, and no more. Assumes nothing.
use Prim.Native.Nat.{ℕ, zero, suc, ◌+◌, ◌-◌, ◌≤◌, ◌<◌}
use mathlib.Core.Path.{◌≡◌, refl, sym, ◌∙◌, subst}
use mathlib.Core.Bool.{Bool, true, false, cond, true≢false}
use native.Mathlib.Nat.{zero-add, lt_of_not-le}
use native.Mathlib.Omega.{arith}
use borrow.Author.Tests.{eqb-true, eqb-false, ltb-true, ltb-false}
use lib.Arith.{lt_of_le-ne}
use lib.Dec.{eqb, ltb}
use Rattle.hierarchy.specs.Forest.{Forest, has_parent_in, AboveIn, here, up, ends_within_in, ends_in}
use Rattle.hierarchy.specs.Paths.{ancestor}
use Rattle.hierarchy.proofs.Lineage.{parent-below, ends-step, ends-here, ends-none, ends-mono, ends-top, above-trans}

-- ---- m + 1 different numbers are not all below m
module _ (m : ℕ) (f : ℕ → ℕ) (below : (i : ℕ) → i ≤ suc m → f i < suc m)
    (differ : (i j : ℕ) → i ≤ suc m → j ≤ suc m → f i ≡ f j → i ≡ j) where
  -- the last number in the place of m
  moved : ℕ → ℕ
  moved i = cond (eqb (f i) m) (f (suc m)) (f i)

  last-differs : (i : ℕ) → i ≤ m → f (suc m) ≡ f i → ⊥
  last-differs i h e = let d = differ (suc m) i (omega arith) (omega arith) e in omega arith

  moved-below : (i : ℕ) → i ≤ m → moved i < m
  unfolding moved
  moved-below i h = at (eqb (f i) m) refl
    where
      at : (t : Bool) → eqb (f i) m ≡ t → cond t (f (suc m)) (f i) < m
      at true e =
          let b = below (suc m) (omega arith) in
          lt_of_le-ne (omega arith) (λ q. last-differs i h (q ∙ sym (eqb-true (f i) m e)))
      at false e = let b = below i (omega arith) in lt_of_le-ne (omega arith) (eqb-false (f i) m e)

  moved-differ : (i j : ℕ) → i ≤ m → j ≤ m → moved i ≡ moved j → i ≡ j
  unfolding moved
  moved-differ i j h k e = at (eqb (f i) m) (eqb (f j) m) refl refl e
    where
      same : f i ≡ f j → i ≡ j
      same q = differ i j (omega arith) (omega arith) q

      at : (s t : Bool) → eqb (f i) m ≡ s → eqb (f j) m ≡ t
          → cond s (f (suc m)) (f i) ≡ cond t (f (suc m)) (f j) → i ≡ j
      at true true a b q = same (eqb-true (f i) m a ∙ sym (eqb-true (f j) m b))
      at true false a b q = absurd (last-differs j k q)
      at false true a b q = absurd (last-differs i h (sym q))
      at false false a b q = same q

pub too_many : (m : ℕ) (f : ℕ → ℕ) → ((i : ℕ) → i ≤ m → f i < m)
    → ((i j : ℕ) → i ≤ m → j ≤ m → f i ≡ f j → i ≡ j) → ⊥
too_many zero f below differ = let b = below 0 (omega arith) in omega arith
too_many (suc m) f below differ =
    too_many m (moved m f below differ) (moved-below m f below differ) (moved-differ m f below differ)

module _ (f : Forest) where
  -- the parents of g end after d steps, and no sooner
  abbrev After : ℕ → ℕ → Type 0
  After d g = (ends_within_in f (suc d) g ≡ true) × (ends_within_in f d g ≡ false)

  after-up : (d g : ℕ) → After (suc d) g → (has_parent_in f g ≡ true) × After d (f.parent g)
  after-up d g a = at (has_parent_in f g) refl
    where
      at : (t : Bool) → has_parent_in f g ≡ t → (has_parent_in f g ≡ true) × After d (f.parent g)
      at true e = (e, (sym (ends-step f (suc d) g e) ∙ a.0, sym (ends-step f d g e) ∙ a.1))
      at false e = absurd (true≢false (sym (ends-here f d g e) ∙ a.1))

  later : (i d g : ℕ) → After (suc i + d) g → After (i + suc d) g
  later i d g a = let same : suc i + d ≡ i + suc d = omega arith in subst (λ (n : ℕ). After n g) same a

  after-ancestor : (i d g : ℕ) → After (i + d) g → After d (ancestor f.parent i g)
  unfolding ancestor
  after-ancestor zero d g a = rw zero-add at a
  after-ancestor (suc i) d g a = (after-up d (ancestor f.parent i g) (after-ancestor i (suc d) g (later i d g a))).1

  ancestor-below : (i d g : ℕ) → g < f.count → After (i + d) g → ancestor f.parent i g < f.count
  unfolding ancestor
  ancestor-below zero d g h a = h
  ancestor-below (suc i) d g h a =
      parent-below f (ancestor f.parent i g) (after-up d (ancestor f.parent i g) (after-ancestor i (suc d) g (later i d g a))).0

  -- ends within n steps is ends within more
  ends_more : (n k g : ℕ) → n ≤ k → ends_within_in f n g ≡ true → ends_within_in f k g ≡ true
  ends_more n k g h e =
      let s : n + (k - n) ≡ k = omega arith in
      subst (λ (w : ℕ). ends_within_in f w g ≡ true) s (ends-mono f n (k - n) g e)

  not_after : (c d g : ℕ) → c < d → After c g → After d g → ⊥
  not_after c d g h a b = true≢false (sym (ends_more (suc c) d g h a.0) ∙ b.1)

  after_same : (c d g : ℕ) → After c g → After d g → c ≡ d
  after_same c d g a b = at (ltb c d) (ltb d c) refl refl
    where
      at : (s t : Bool) → ltb c d ≡ s → ltb d c ≡ t → c ≡ d
      at true t e q = absurd (not_after c d g (ltb-true c d e) a b)
      at false true e q = absurd (not_after d c g (ltb-true d c q) b a)
      at false false e q = omega (arith, ltb-false c d e, ltb-false d c q)

  few-steps : (d g : ℕ) → g < f.count → After d g → d < f.count
  few-steps d g h a = lt_of_not-le (λ l. too_many f.count (λ i. ancestor f.parent i g) (inside l) (differ l))
    where
      split : (i : ℕ) → i ≤ d → i + (d - i) ≡ d
      split i k = omega arith

      left : (i : ℕ) → i ≤ d → After (i + (d - i)) g
      left i k = rw (split i k) a

      inside : f.count ≤ d → (i : ℕ) → i ≤ f.count → ancestor f.parent i g < f.count
      inside l i k = ancestor-below i (d - i) g h (left i (omega arith))

      differ : f.count ≤ d → (i j : ℕ) → i ≤ f.count → j ≤ f.count
          → ancestor f.parent i g ≡ ancestor f.parent j g → i ≡ j
      differ l i j k m e =
          let x = after-ancestor i (d - i) g (left i (omega arith)) in
          let y = after-ancestor j (d - j) g (left j (omega arith)) in
          let s = after_same (d - i) (d - j) (ancestor f.parent j g) (subst (After (d - i)) e x) y in
          omega arith

  -- ---- the rule of ends
  above-after : {g p : ℕ} → AboveIn f g p → has_parent_in f p ≡ false → (d : ℕ) × After d g
  above-after {g} here e = (0, (ends-here f 0 g e, ends-none f g))
  above-after {g} (up h a) e =
      let q = above-after a e in
      (suc q.0, (ends-step f (suc q.0) g h ∙ q.1.0, ends-step f q.0 g h ∙ q.1.1))

  pub top-ends : (g p : ℕ) → g < f.count → AboveIn f g p → has_parent_in f p ≡ false → ends_in f g ≡ true
  unfolding ends_in
  top-ends g p h a e =
      let q = above-after a e in
      ends_more (suc q.0) f.count g (few-steps q.0 g h q.1) q.1.0

  -- a walk that comes to a group whose parents end
  pub above-ends : (g p : ℕ) → g < f.count → AboveIn f g p → ends_in f p ≡ true → ends_in f g ≡ true
  unfolding ends_in
  above-ends g p h a e =
      let q = ends-top f f.count p e in
      top-ends g q.0 h (above-trans f a q.1.0) q.1.1
