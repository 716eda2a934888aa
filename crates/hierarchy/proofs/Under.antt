-- What lies below a set of groups: its places, and that `below` is a closure: it holds the set, it is monotone, and what
-- lies below it is in it, where the parents of every group end. Assumes nothing.
use Prim.Native.Nat.{ℕ, zero, suc, ◌^◌, ◌≤◌, ◌<◌}
use mathlib.Core.Path.{◌≡◌, refl, sym, ◌∙◌}
use mathlib.Core.Bool.{Bool, true, false, ◌&&◌, true≢false}
use native.Mathlib.Omega.{arith}
use borrow.Author.Tests.{lt-ltb}
use lib.Dec.{ltb}
use Rattle.sets.specs.Sets.{has, all_below, intersection, meets, within}
use Rattle.sets.proofs.Has.{all_below-has, intersection-has, collect-has, collect-below, collect-true, true-collect}
use Rattle.sets.proofs.Within.{within_has, has_within, within-refl, within-antisym, intersection-within-left}
use Rattle.sets.proofs.Meets.{meets-place, place-meets, meets-mono}
use Rattle.sets.proofs.Bounds as bounds
use Rattle.hierarchy.specs.Forest.{Forest, has_parent_in, AboveIn, here, up, ends_in, lineage_within_in, lineage_in, below_in, AllEndIn}
use Rattle.hierarchy.proofs.Lineage.{parent-below, lineage-self, lineage-above, lineage-group, above-lineage, above-trans}

module _ (f : Forest) where
  -- ---- its places
  pub below-has : (s g : ℕ) → has (below_in f s) g ≡ (ltb g f.count && meets (lineage_in f g) s)
  unfolding below_in
  below-has s g = collect-has (λ g. meets (lineage_in f g) s) f.count g

  pub below-limit : (s : ℕ) → below_in f s < 2 ^ f.count
  unfolding below_in
  below-limit s = collect-below (λ g. meets (lineage_in f g) s) f.count

  pub below_true : (s g : ℕ) → has (below_in f s) g ≡ true → (g < f.count) × (meets (lineage_in f g) s ≡ true)
  unfolding below_in
  below_true s g h = collect-true (λ g. meets (lineage_in f g) s) f.count g h

  pub true_below : (s g : ℕ) → g < f.count → meets (lineage_in f g) s ≡ true → has (below_in f s) g ≡ true
  unfolding below_in
  true_below s g l m = true-collect (λ g. meets (lineage_in f g) s) f.count g l m

  pub lineage-has-self : (g : ℕ) → g < f.count → has (lineage_in f g) g ≡ true
  unfolding lineage_in
  lineage-has-self g l = at f.count l
    where
      at : (n : ℕ) → g < n → has (lineage_within_in f n g) g ≡ true
      at zero k = absurd (omega arith)
      at (suc n) k = lineage-self f n g

  -- a place below s has an ancestor in s; where its parents end, that is all it takes
  pub below-above : (s g : ℕ) → has (below_in f s) g ≡ true → (p : ℕ) × (AboveIn f g p × (has s p ≡ true))
  unfolding lineage_in
  below-above s g h =
      let q = meets-place (lineage_in f g) s (below_true s g h).1 in
      (q.0, (lineage-above f f.count g q.0 q.1.0, q.1.1))

  pub above-below : (s g p : ℕ) → g < f.count → ends_in f g ≡ true → AboveIn f g p → has s p ≡ true
      → has (below_in f s) g ≡ true
  unfolding lineage_in ends_in
  above-below s g p l e a h =
      true_below s g l (place-meets (lineage_in f g) s p (above-lineage f f.count g p e a) h)

  -- a group of s lies below s
  pub below-place : (s g : ℕ) → g < f.count → has s g ≡ true → has (below_in f s) g ≡ true
  below-place s g l h = true_below s g l (place-meets (lineage_in f g) s g (lineage-has-self g l) h)

  pub below-outside : (s g : ℕ) → f.count ≤ g → has (below_in f s) g ≡ false
  below-outside s g h = bounds.below-lacks (below_in f s) f.count (below-limit s) g h

  -- a group that is not in s lies below s where its parent does
  pub below-parent : AllEndIn f → (s g : ℕ) → g < f.count → has s g ≡ false
      → has (below_in f s) g ≡ has (below_in f s) (f.parent g)
  unfolding has_parent_in
  below-parent ends s g l off = at (has (below_in f s) g) (has (below_in f s) (f.parent g)) refl refl
    where
      -- the ancestor is not g itself
      higher : {p : ℕ} → AboveIn f g p → has s p ≡ true → has (below_in f s) (f.parent g) ≡ true
      higher here h = absurd (true≢false (sym h ∙ off))
      higher {p} (up e a) h =
          let k = parent-below f g e in
          above-below s (f.parent g) p k (ends (f.parent g) k) a h

      at : (t u : Bool) → has (below_in f s) g ≡ t → has (below_in f s) (f.parent g) ≡ u → t ≡ u
      at true true a b = refl
      at true false a b = let q = below-above s g a in absurd (true≢false (sym (higher q.1.0 q.1.1) ∙ b))
      at false true a b =
          let q = below-above s (f.parent g) b in
          let e = lt-ltb (f.parent g) f.count (below_true s (f.parent g) b).0 in
          absurd (true≢false (sym (above-below s g q.0 l (ends g l) (up e q.1.0) q.1.1) ∙ a))
      at false false a b = refl

  -- ---- its laws
  pub below_self : (s : ℕ) → s < 2 ^ f.count → within s (below_in f s) ≡ true
  below_self s h =
      has_within s (below_in f s)
      (λ g m.
      below-place s g (bounds.below-has s f.count h g m) m)

  pub below-mono : (s t : ℕ) → within s t ≡ true → within (below_in f s) (below_in f t) ≡ true
  below-mono s t w =
      has_within (below_in f s) (below_in f t)
      (λ g m.
      let q = below_true s g m in
      true_below t g q.0 (meets-mono (lineage_in f g) s (lineage_in f g) t (within-refl (lineage_in f g)) w q.1))

  -- only the groups of s count
  pub below-groups : (s : ℕ) → below_in f (intersection s (all_below f.count)) ≡ below_in f s
  unfolding lineage_in
  below-groups s =
      within-antisym (below_in f (intersection s (all_below f.count))) (below_in f s)
      (below-mono (intersection s (all_below f.count)) s (intersection-within-left s (all_below f.count)))
      (has_within (below_in f s) (below_in f (intersection s (all_below f.count))) (λ g m. only g (below_true s g m)))
    where
      only : (g : ℕ) → (g < f.count) × (meets (lineage_in f g) s ≡ true)
          → has (below_in f (intersection s (all_below f.count))) g ≡ true
      only g h =
          let q = meets-place (lineage_in f g) s h.1 in
          let l = lineage-group f f.count g q.0 h.0 q.1.0 in
          let k = all_below-has f.count q.0 ∙ lt-ltb q.0 f.count l in
          true_below (intersection s (all_below f.count)) g h.0
          (place-meets (lineage_in f g) (intersection s (all_below f.count)) q.0 q.1.0
          (intersection-has s (all_below f.count) q.0 ∙ rw (q.1.1, k)))

  pub below-closed : AllEndIn f → (s t : ℕ) → within s (below_in f t) ≡ true → within (below_in f s) (below_in f t) ≡ true
  below-closed ends s t w =
      has_within (below_in f s) (below_in f t)
      (λ g m.
      let l = (below_true s g m).0 in
      let p = below-above s g m in
      let q = below-above t p.0 (within_has s (below_in f t) w p.0 p.1.1) in
      above-below t g q.0 l (ends g l) (above-trans f p.1.0 q.1.0) q.1.1)
