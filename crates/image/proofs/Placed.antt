-- A component that the policy has lies among its class, and its name inside its record. Assumes nothing.
use Rattle.std.proofs.Common.{Ok, Err}
use Prim.Native.Nat.{ℕ, ◌+◌, ◌≤◌, ◌<◌}
use mathlib.Core.Path.{◌≡◌, refl}
use mathlib.Core.Bool.{Bool, true, false, cond, or-false}
use mathlib.Core.List.{List}
use native.Mathlib.Omega.{arith}
use borrow.Author.Tests.{ltb-true, eqb-true, eqb-false, ne_eqb}
use lib.Dec.{eqb, ltb}
use Rattle.fields.proofs.Both.{both_right}
use Rattle.header.specs.Layout.{levels, compartments, groups, components, class_first, component_record}
use lib.ListN.{length}
use Rattle.fields.proofs.Laws.{part-byte}
use Rattle.fields.proofs.Meaning.{NameKept}
use Rattle.header.specs.declared.layout.Kind.TheVariants.{Component}
use Rattle.header.proofs.Inside.{record-inside}
use Rattle.records.specs.Fields.{component_name_field}
use Rattle.image.specs.Check.{check_of, IsAccepted}
use Rattle.image.specs.Lookup.{has_component, component_index, name_offset, name_length, name_answer}
use Rattle.refusals.specs.declared.Refusal.TheVariants.{NoComponent}
use Rattle.refusals.specs.Answers.{on_checked, or_refuse, Checked}
use Rattle.image.proofs.Accepted.{accepted-counted, refused-not}
use Rattle.image.proofs.Policy.{component-kept}

module _ (im : List ℕ) (class place : ℕ) (has : has_component im class place ≡ true) where
  pub placed-level : class ≡ 1 → place < levels im
  unfolding has_component
  placed-level e = ltb-true place (levels im) (rw (e, or-false, or-false) at has)

  pub placed-compartment : class ≡ 2 → place < compartments im
  unfolding has_component
  placed-compartment e = ltb-true place (compartments im) (rw (e, or-false) at has)

  pub placed-group : (class ≡ 1 → ⊥) → (class ≡ 2 → ⊥) → place < groups im
  unfolding has_component
  placed-group n m =
      ltb-true place (groups im)
      (both_right (eqb class 3) (ltb place (groups im)) (rw (ne_eqb class 1 n, ne_eqb class 2 m) at has))

  -- its place among all components
  pub placed-index : component_index im class place < components im
  unfolding component_index class_first components
  placed-index = at (eqb class 1) refl (eqb class 2) refl
    where
      at : (s : Bool) → eqb class 1 ≡ s → (t : Bool) → eqb class 2 ≡ t
          → cond s 0 (cond t (levels im) (levels im + compartments im)) + place < levels im + compartments im + groups im
      at true e t d = let h = placed-level (eqb-true class 1 e) in omega arith
      at false e true d = let h = placed-compartment (eqb-true class 2 d) in omega arith
      at false e false d = let h = placed-group (eqb-false class 1 e) (eqb-false class 2 d) in omega arith

-- ---- in an accepted image a component's name is 1 to 30 bytes, and lies inside the image
module _ (im : List ℕ) (acc : IsAccepted im) (class place : ℕ) (has : has_component im class place ≡ true) where
  named : NameKept (component_name_field (component_record im (component_index im class place)))
  named = (component-kept im acc (component_index im class place) (placed-index im class place has)).named

  pub name-long : (1 ≤ name_length im class place) × (name_length im class place ≤ 30)
  unfolding name_length
  name-long =
      let k = named in
      let rec = component_record im (component_index im class place) in
      let e = part-byte rec 1 31 0 (omega arith) in
      omega arith

  pub name-inside : name_offset im class place + name_length im class place ≤ length im
  unfolding name_offset
  name-inside =
      omega (
        arith,
        name-long,
        record-inside im (accepted-counted im acc).fitted Component (component_index im class place) (placed-index im class place has),
      )

-- a name look-up that is accepted has an accepted image and a component
pub answered : (im : List ℕ) (class place : ℕ) → name_answer im class place ≡ Ok tt
    → IsAccepted im × (has_component im class place ≡ true)
unfolding name_answer
answered im class place = at (check_of im) (has_component im class place)
  where
    at : (c : Checked) (t : Bool) → on_checked c Err (or_refuse t NoComponent (Ok tt)) ≡ (Ok tt) → (c ≡ Ok tt) × (t ≡ true)
    at (Ok tt) true e = (refl, refl)
    at (Ok tt) false e = absurd (refused-not _ e)
    at (Err r) t e = absurd (refused-not r e)
