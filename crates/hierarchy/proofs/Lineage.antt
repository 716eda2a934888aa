-- The walk along parents. What n steps meet are ancestors; where the parents end within n steps, they are all of them.
-- Assumes nothing.
use Prim.Native.Nat.{ℕ, zero, suc, ◌+◌, ◌<◌}
use mathlib.Core.Path.{◌≡◌, refl, sym, ap, ◌∙◌}
use mathlib.Core.Bool.{Bool, true, false, ◌||◌, or-true, true≢false}
use native.Mathlib.Nat.{suc-add}
use native.Mathlib.Numerals.{add-one}
use borrow.Author.Tests.{eq-eqb, eqb-true, ltb-true}
use lib.Bits.{or_zero_r}
use lib.Dec.{eqb}
use Rattle.sets.specs.Sets.{has, none, one, union}
use Rattle.sets.proofs.Has.{none_has, one_has, union-has}
use Rattle.hierarchy.specs.Forest.{Forest, has_parent_in, AboveIn, here, up, ends_within_in, lineage_within_in}

module _ (f : Forest) where
  -- ---- one step
  pub parent-below : (g : ℕ) → has_parent_in f g ≡ true → f.parent g < f.count
  unfolding has_parent_in
  parent-below g e = ltb-true (f.parent g) f.count e

  pub ends-step : (n g : ℕ) → has_parent_in f g ≡ true → ends_within_in f (suc n) g ≡ ends_within_in f n (f.parent g)
  unfolding ends_within_in
  ends-step n g e = rw e

  pub ends-here : (n g : ℕ) → has_parent_in f g ≡ false → ends_within_in f (suc n) g ≡ true
  unfolding ends_within_in
  ends-here n g e = rw e

  pub ends-none : (g : ℕ) → ends_within_in f 0 g ≡ false
  unfolding ends_within_in
  ends-none g = refl

  lineage-step : (n g : ℕ) → has_parent_in f g ≡ true
      → lineage_within_in f (suc n) g ≡ union (one g) (lineage_within_in f n (f.parent g))
  unfolding lineage_within_in
  lineage-step n g e = rw e

  lineage-here : (n g : ℕ) → has_parent_in f g ≡ false → lineage_within_in f (suc n) g ≡ one g
  unfolding lineage_within_in
  lineage-here n g e = rw e (or_zero_r (one g))

  lineage-none : (g : ℕ) → lineage_within_in f 0 g ≡ none
  unfolding lineage_within_in
  lineage-none g = refl

  -- the places of one step
  here-has : (n g p : ℕ) → has_parent_in f g ≡ false → has (lineage_within_in f (suc n) g) p ≡ eqb g p
  here-has n g p e = ap (λ (s : ℕ). has s p) (lineage-here n g e) ∙ one_has g p

  step-has : (n g p : ℕ) → has_parent_in f g ≡ true
      → has (lineage_within_in f (suc n) g) p ≡ (eqb g p || has (lineage_within_in f n (f.parent g)) p)
  step-has n g p e =
      ap (λ (s : ℕ). has s p) (lineage-step n g e) ∙ union-has (one g) (lineage_within_in f n (f.parent g)) p
      ∙ ap (λ (t : Bool). t || has (lineage_within_in f n (f.parent g)) p) (one_has g p)

  pub lineage-self : (n g : ℕ) → has (lineage_within_in f (suc n) g) g ≡ true
  lineage-self n g = at (has_parent_in f g) refl
    where
      at : (t : Bool) → has_parent_in f g ≡ t → has (lineage_within_in f (suc n) g) g ≡ true
      at true e = step-has n g g e ∙ rw (eq-eqb g g refl)
      at false e = here-has n g g e ∙ eq-eqb g g refl

  -- ---- what the walk meets are the ancestors
  same_above : {g p : ℕ} → eqb g p ≡ true → AboveIn f g p
  same_above {g} {p} e = rw (sym (eqb-true g p e)) here

  pub lineage-above : (n g p : ℕ) → has (lineage_within_in f n g) p ≡ true → AboveIn f g p
  lineage-above zero g p h = absurd (true≢false (sym h ∙ ap (λ (s : ℕ). has s p) (lineage-none g) ∙ none_has p))
  lineage-above (suc n) g p h = at (has_parent_in f g) (eqb g p) refl refl (lineage-above n (f.parent g) p)
    where
      at : (t u : Bool) → has_parent_in f g ≡ t → eqb g p ≡ u
          → (has (lineage_within_in f n (f.parent g)) p ≡ true → AboveIn f (f.parent g) p) → AboveIn f g p
      at t true e k later = same_above k
      at true false e k later = up e (later (sym (step-has n g p e ∙ rw k) ∙ h))
      at false false e k later = absurd (true≢false (sym h ∙ here-has n g p e ∙ k))

  -- and where the parents end, all of them
  pub ends-parent : (n g : ℕ) → ends_within_in f (suc n) g ≡ true → has_parent_in f g ≡ true → ends_within_in f n (f.parent g) ≡ true
  ends-parent n g h e = sym (ends-step n g e) ∙ h

  pub above-lineage : (n g p : ℕ) → ends_within_in f n g ≡ true → AboveIn f g p → has (lineage_within_in f n g) p ≡ true
  above-lineage zero g p h a = absurd (true≢false (sym h ∙ ends-none g))
  above-lineage (suc n) g p h here = lineage-self n g
  above-lineage (suc n) g p h (up e a) =
      step-has n g p e ∙ rw (above-lineage n (f.parent g) p (ends-parent n g h e) a, or-true (eqb g p))

  pub above-trans : {g p q : ℕ} → AboveIn f g p → AboveIn f p q → AboveIn f g q
  above-trans here b = b
  above-trans (up e a) b = up e (above-trans a b)

  -- an ancestor of a group is a group
  pub above-group : {g p : ℕ} → g < f.count → AboveIn f g p → p < f.count
  above-group h here = h
  above-group {g} h (up e a) = above-group (parent-below g e) a

  pub lineage-group : (n g p : ℕ) → g < f.count → has (lineage_within_in f n g) p ≡ true → p < f.count
  lineage-group n g p h m = above-group h (lineage-above n g p m)

  -- ---- more steps
  pub ends-mono : (n k g : ℕ) → ends_within_in f n g ≡ true → ends_within_in f (n + k) g ≡ true
  ends-mono zero k g h = absurd (true≢false (sym h ∙ ends-none g))
  ends-mono (suc n) k g h = rw suc-add (at (has_parent_in f g) refl (ends-mono n k (f.parent g)))
    where
      at : (t : Bool) → has_parent_in f g ≡ t
          → (ends_within_in f n (f.parent g) ≡ true → ends_within_in f (n + k) (f.parent g) ≡ true)
          → ends_within_in f (suc (n + k)) g ≡ true
      at true e later = ends-step (n + k) g e ∙ later (ends-parent n g h e)
      at false e later = ends-here (n + k) g e

  -- the parents of an ancestor end too
  pub ends-up : (n g : ℕ) → ends_within_in f n g ≡ true → has_parent_in f g ≡ true → ends_within_in f n (f.parent g) ≡ true
  ends-up zero g h e = absurd (true≢false (sym h ∙ ends-none g))
  ends-up (suc n) g h e = rw (← add-one) (ends-mono n 1 (f.parent g) (ends-parent n g h e))

  -- ---- where the walk ends
  pub ends-top : (n g : ℕ) → ends_within_in f n g ≡ true → (p : ℕ) × (AboveIn f g p × (has_parent_in f p ≡ false))
  ends-top zero g h = absurd (true≢false (sym h ∙ ends-none g))
  ends-top (suc n) g h = at (has_parent_in f g) refl (ends-top n (f.parent g))
    where
      at : (t : Bool) → has_parent_in f g ≡ t
          → (ends_within_in f n (f.parent g) ≡ true → (p : ℕ) × (AboveIn f (f.parent g) p × (has_parent_in f p ≡ false)))
          → (p : ℕ) × (AboveIn f g p × (has_parent_in f p ≡ false))
      at true e later = let q = later (ends-parent n g h e) in (q.0, (up e q.1.0, q.1.1))
      at false e later = (g, (here, e))
