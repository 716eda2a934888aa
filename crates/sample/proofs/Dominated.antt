-- Dominance in the sample co-operative, computed: a group counts for those above it, at any distance, and dominance isn't transitive. Assumes
-- nothing.
use Rattle.std.proofs.Common.{Ok}
use Prim.Native.Nat.{ℕ, ◌^◌, ◌≤◌, ◌<◌}
use mathlib.Core.Path.{◌≡◌, refl, sym, ap, ◌∙◌, subst}
use mathlib.Core.Bool.{true, false}
use native.Mathlib.Omega.{arith}
use lib.Dec.{lit≤, lit<}
use Rattle.sets.specs.Words.{joined}
use Rattle.records.specs.Fields.{groups_at}
use Rattle.fields.specs.Bytes.{number2, number4, number8}
use Rattle.fields.specs.Scan.{first_bad, list_from}
use Rattle.sets.specs.Sets.{has, within, meets, empty, collect}
use Rattle.sets.proofs.Bounds.{none_below}
use Rattle.header.specs.Layout.{levels, compartments, groups, components, first_block, blocks_for, record_offset, record_at, class_first, edition_of, profile_of, records_of}
use Rattle.hierarchy.specs.Forest.{has_parent_in, lineage_within_in, lineage_in, below_in}
use Rattle.hierarchy.specs.Below.{parent_in, reach}
use Rattle.labels.specs.Label.{Marks, marks, label_exists}
use Rattle.labels.proofs.Existing.{means-exists}
use Rattle.labels.specs.GroupTest.{group_test}
use Rattle.dominance.specs.TwoLabels.{dominates_level, dominates_compartments, dominates_groups, dominates, dominates_of}
use Rattle.dominance.proofs.Compared.{means-compared}
use Rattle.sample.specs.Cooperative.{cooperative}
use Rattle.sample.proofs.Sample.{sample-accepted}

-- labels at CREW, of the groups WORKS, NORTH, DOCK and SOUTH, and of NORTH and SOUTH
abbrev crew : ℕ → Marks
crew groups = marks 1 0 groups

abbrev pub works : Marks
works = crew 1

abbrev pub north : Marks
north = crew 2

abbrev pub dock : Marks
dock = crew 4

abbrev pub south : Marks
south = crew 8

abbrev pub north_south : Marks
north_south = crew 10

computed : ((dominates cooperative north dock ≡ true) × (dominates cooperative works dock ≡ true)
    × (dominates cooperative dock north ≡ false))
    × ((dominates cooperative north north_south ≡ true) × (dominates cooperative north_south south ≡ true)
    × (dominates cooperative north south ≡ false))
unfolding cooperative number2 number4 number8 first_bad has within meets empty collect levels compartments groups components first_block blocks_for record_offset record_at class_first records_of list_from parent_in has_parent_in lineage_within_in lineage_in below_in group_test dominates_level dominates_compartments dominates_groups dominates edition_of groups_at joined profile_of reach
computed = ((refl, refl, refl), (refl, refl, refl))

-- the policy has every label at CREW of its four groups
exist : (g : ℕ) → g ≤ 15 → label_exists cooperative (crew g) ≡ true
exist g h =
    means-exists cooperative (crew g)
    (record { level = counted.0; compartments = none_below (compartments cooperative); groups = subst (λ (n : ℕ). g < 2 ^ n) (sym counted.1) (omega arith) })
  where
    counted : (1 < levels cooperative) × (groups cooperative ≡ 4)
    counted = unfold cooperative levels groups edition_of in (lit< tt, refl)

answered : (a b : ℕ) → a ≤ 15 → b ≤ 15 → dominates_of cooperative (crew a) (crew b) ≡ Ok (dominates cooperative (crew a) (crew b))
unfolding dominates_of
answered a b ha hb =
    rw (means-compared cooperative (crew a) (crew b) (record { accepted = sample-accepted; first = exist a ha; second = exist b hb }))

-- NORTH dominates DOCK, which stands under it; WORKS does so two steps down; DOCK does not dominate NORTH
pub subgroups-dominated : (dominates_of cooperative north dock ≡ Ok true) × (dominates_of cooperative works dock ≡ Ok true)
    × (dominates_of cooperative dock north ≡ Ok false)
subgroups-dominated = (
  answered 2 4 (lit≤ tt) (lit≤ tt) ∙ ap Ok computed.0.0,
  answered 1 4 (lit≤ tt) (lit≤ tt) ∙ ap Ok computed.0.1,
  answered 4 2 (lit≤ tt) (lit≤ tt) ∙ ap Ok computed.0.2,
)

-- NORTH dominates NORTH,SOUTH, which dominates SOUTH, but NORTH does not dominate SOUTH
pub not-transitive : (dominates_of cooperative north north_south ≡ Ok true) × (dominates_of cooperative north_south south ≡ Ok true)
    × (dominates_of cooperative north south ≡ Ok false)
not-transitive = (
  answered 2 10 (lit≤ tt) (lit≤ tt) ∙ ap Ok computed.1.0,
  answered 10 8 (lit≤ tt) (lit≤ tt) ∙ ap Ok computed.1.1,
  answered 2 8 (lit≤ tt) (lit≤ tt) ∙ ap Ok computed.1.2,
)
