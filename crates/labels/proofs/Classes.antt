-- The components of a class: their number, and where they stand among all components. Assumes nothing.
use Prim.Native.Nat.{ℕ, ◌+◌, ◌-◌, ◌≤◌, ◌<◌}
use mathlib.Core.Path.{◌≡◌, refl, sym, ap, ◌∙◌}
use mathlib.Core.Bool.{Bool, true, false, cond}
use mathlib.Core.List.{List}
use native.Mathlib.Nat.{add-zero, add-sub_cancel_left}
use native.Mathlib.Omega.{arith}
use borrow.Author.Tests.{lt-ltb, eq-eqb, eqb-false}
use lib.Dec.{eqb}
use Rattle.fields.specs.Scan.{first_bad}
use Rattle.fields.proofs.Scan.{bad-shift}
use Rattle.sets.specs.Groups.{width}
use Rattle.header.specs.Layout.{levels, compartments, groups, components, counts_of, class_first}
use Rattle.records.specs.Rules.{other_name, others_named}
use Rattle.header.specs.Limits.{Counted}
use Rattle.header.proofs.Editions.{counted-groups}
use Rattle.image.specs.Lookup.{has_component, component_index}
use Rattle.fields.specs.Names.{folded_name}
use Rattle.labels.specs.Parse.{matches, class_count, place_of_name}

-- a place below its class's count is a component of the policy
pub class-has : (im : List ℕ) (class p : ℕ) → 1 ≤ class → class ≤ 3 → p < class_count im class → has_component im class p ≡ true
unfolding has_component
class-has im class p low high = at (eqb class 1) refl (eqb class 2) refl
  where
    at : (s : Bool) → eqb class 1 ≡ s → (t : Bool) → eqb class 2 ≡ t
        → p < cond s (levels im) (cond t (compartments im) (groups im)) → has_component im class p ≡ true
    at true e t d h = rw (e, lt-ltb p (levels im) h)
    at false e true d h = rw (e, d, lt-ltb p (compartments im) h)
    at false e false d h =
        let three : class ≡ 3 = omega (arith, eqb-false class 1 e, eqb-false class 2 d) in
        rw (e, d, eq-eqb class 3 three, lt-ltb p (groups im) h)

-- a set has room for the places of every class
pub class-limit : (im : List ℕ) (class : ℕ) → Counted im → class_count im class ≤ width
class-limit im class k = at (eqb class 1) (eqb class 2)
  where
    at : (s t : Bool) → cond s (levels im) (cond t (compartments im) (groups im)) ≤ width
    at true t = omega (arith, k.levels_limit)
    at false true = omega (arith, k.compartments_limit)
    at false false = counted-groups im k

-- ---- a class's components follow one another
module _ (im : List ℕ) (class : ℕ) where
  pub class-inside : class_first (counts_of im) class + class_count im class ≤ components im
  unfolding class_first components
  class-inside = at (eqb class 1) (eqb class 2)
    where
      at : (s t : Bool)
          → cond s 0 (cond t (levels im) (levels im + compartments im)) + cond s (levels im) (cond t (compartments im) (groups im))
          ≤ levels im + compartments im + groups im
      at true t = omega arith
      at false true = omega arith
      at false false = omega arith

  -- so the first of them that has the name, among all components, stands at its place in the class from their first on
  pub place_found : (name : List ℕ) (s n r : ℕ) → s ≡ class_first (counts_of im) class → n ≡ class_count im class
      → r ≡ first_bad (others_named im (folded_name name)) (s + n - s) s → r ≡ s + place_of_name im class name
  unfolding place_of_name matches other_name component_index
  place_found name s n r e d f =
      f ∙ rw (add-sub_cancel_left, d, e)
      (ap (first_bad (others_named im (folded_name name)) (class_count im class)) (sym (add-zero _))
      ∙ bad-shift (others_named im (folded_name name)) (class_first (counts_of im) class) (class_count im class) 0)
