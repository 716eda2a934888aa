-- In an accepted image the names of a class differ, so that a component that has a name is the one that is found. Assumes nothing.
use Rattle.std.proofs.Common.{Option, Some}
use Prim.Native.Nat.{ℕ, zero-le, ◌+◌, ◌≤◌, ◌<◌}
use mathlib.Core.Path.{◌≡◌, refl, sym, ◌∙◌, subst}
use mathlib.Core.Bool.{Bool, true, false, cond}
use mathlib.Core.List.{List}
use native.Mathlib.Omega.{arith}
use borrow.Author.Tests.{eqb-true, eqb-false, lt-ltb}
use lib.Dec.{eqb}
use Rattle.fields.proofs.Meaning.{found-unique, same-means}
use Rattle.header.specs.Layout.{levels, compartments, groups, components, counts_of, class_first, class_at, component_record}
use Rattle.records.specs.Fields.{component_name}
use Rattle.records.proofs.MeaningComponents.{class-level, class-compartment, class-group}
use Rattle.image.specs.Check.{IsAccepted}
use Rattle.image.specs.Lookup.{component_index}
use Rattle.image.proofs.Placed.{placed-index}
use Rattle.image.proofs.Policy.{components-apart}
use Rattle.labels.specs.Parse.{matches, class_count, place_of_name}
use Rattle.labels.specs.Lists.{found_of}
use Rattle.labels.specs.Hints.{HasName, ToldOf}
use Rattle.labels.proofs.Classes.{class-has}

module _ (im : List ℕ) (class : ℕ) where
  -- the components of a class are of that class, and each has a place of its own
  index-class : (p : ℕ) → 1 ≤ class → class ≤ 3 → p < class_count im class → class_at (counts_of im) (component_index im class p) ≡ class
  unfolding component_index class_first
  index-class p low high = at (eqb class 1) refl (eqb class 2) refl
    where
      at : (s : Bool) → eqb class 1 ≡ s → (t : Bool) → eqb class 2 ≡ t
          → p < cond s (levels im) (cond t (compartments im) (groups im))
          → class_at (counts_of im) (cond s 0 (cond t (levels im) (levels im + compartments im)) + p) ≡ class
      at true e t d h = class-level (counts_of im) (0 + p) (omega arith) ∙ sym (eqb-true class 1 e)
      at false e true d h = class-compartment (counts_of im) (levels im + p) (omega arith) (omega arith) ∙ sym (eqb-true class 2 d)
      at false e false d h =
          let three : class ≡ 3 = omega (arith, eqb-false class 1 e, eqb-false class 2 d) in
          class-group (counts_of im) (levels im + compartments im + p) (omega arith) ∙ sym three

  index-tells : (j p : ℕ) → component_index im class j ≡ component_index im class p → j ≡ p
  unfolding component_index
  index-tells j p e = omega arith

module _ (im : List ℕ) (acc : IsAccepted im) (class : ℕ) (low : 1 ≤ class) (high : class ≤ 3) (p : ℕ) (h : p < class_count im class) where
  names_apart : (j : ℕ) → j < class_count im class
      → component_name (component_record im (component_index im class j)) ≡ component_name (component_record im (component_index im class p)) → j ≡ p
  names_apart j l e =
      index-tells im class j p
      (components-apart im acc (component_index im class j) (component_index im class p) (inside j l) (inside p h)
      (index-class im class j low high l ∙ sym (index-class im class p low high h)) e)
    where
      inside : (i : ℕ) → i < class_count im class → component_index im class i < components im
      inside i m = placed-index im class i (class-has im class i low high m)

  -- the component that a name matches is the first that it matches
  pub place-unique : (name : List ℕ) → HasName im class name p → place_of_name im class name ≡ p
  unfolding place_of_name matches
  place-unique name has =
      found-unique _ (class_count im class) 0 p zero-le (omega arith) (has h)
      (λ j from upto e. names_apart j (omega arith) (same-means _ _ e ∙ sym (same-means _ _ (has h))))

  found-unique-at : (name : List ℕ) → HasName im class name p → Some p ≡ found_of im class name
  unfolding found_of
  found-unique-at name has = rw (place-unique name has, lt-ltb p (class_count im class) h)

-- a place that hints tell is the one that is found
pub told_at : (im : List ℕ) → IsAccepted im → (class : ℕ) → 1 ≤ class → class ≤ 3 → (name : List ℕ) (told : Option ℕ) (p : ℕ) → told ≡ Some p
    → ToldOf im class name told → Some p ≡ found_of im class name
told_at im acc class low high name told p e holds =
    let at = subst (λ (x : Option ℕ). ToldOf im class name x) e holds in
    found-unique-at im acc class low high p at.0 name at.1
