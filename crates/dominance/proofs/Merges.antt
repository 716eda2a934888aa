-- Merges beside dominance: HUU dominates both labels and LII is dominated by both, where the policy has them; in the release profile HUI and LIU.
-- Assumes nothing.
use Prim.Native.Nat.{ℕ, ◌^◌, ◌<◌}
use mathlib.Core.Path.{◌≡◌}
use mathlib.Core.Bool.{true}
use mathlib.Core.List.{List, [], ◌∷◌}
use native.Mathlib.Nat.{le-max_left, le-max_right, min-le_left, min-le_right}
use native.Mathlib.Omega.{arith}
use borrow.Author.Tests.{le-leb}
use Rattle.sets.proofs.Within.{within-union-left, within-union-right, intersection-within-left, intersection-within-right}
use Rattle.sets.proofs.Bounds.{union-below, intersection-below}
use Rattle.header.specs.declared.profile.Profile.{Profile}
use Rattle.header.specs.declared.profile.Profile.TheVariants.{Tree, Release}
use Rattle.header.specs.Layout.{profile_of, by_profile, compartments, groups}
use Rattle.labels.specs.Label.{Marks, label_exists}
use Rattle.labels.proofs.Existing.{exists-means, means-exists}
use Rattle.dominance.specs.TwoLabels.{dominates_level, dominates_compartments, dominates, letter_h, letter_l, letter_u, letter_i, merge_levels, merge_sets, merged_label}
use Rattle.dominance.proofs.Dominance.{GroupsHeld, held-groups}

-- the higher level, both sets of compartments, and the groups of both; in the release profile those that both have
abbrev pub highest : Profile → List ℕ
highest profile = letter_h ∷ letter_u ∷ by_profile profile letter_u letter_i ∷ []

-- the lower level, what both have of compartments, and what both have of groups; in the release profile the groups of both
abbrev pub lowest : Profile → List ℕ
lowest profile = letter_l ∷ letter_i ∷ by_profile profile letter_i letter_u ∷ []

module _ (a b : Marks) where
  groups-up : (p : Profile) → GroupsHeld p (merged_label a b (highest p)) a × GroupsHeld p (merged_label a b (highest p)) b
  unfolding merged_label merge_sets
  groups-up Tree = (within-union-left a.groups b.groups, within-union-right a.groups b.groups)
  groups-up Release = (intersection-within-left a.groups b.groups, intersection-within-right a.groups b.groups)

  groups-down : (p : Profile) → GroupsHeld p a (merged_label a b (lowest p)) × GroupsHeld p b (merged_label a b (lowest p))
  unfolding merged_label merge_sets
  groups-down Tree = (intersection-within-left a.groups b.groups, intersection-within-right a.groups b.groups)
  groups-down Release = (within-union-left a.groups b.groups, within-union-right a.groups b.groups)

-- the highest merge dominates both labels
pub highest-dominates : (im : List ℕ) (a b : Marks) → label_exists im a ≡ true → label_exists im b ≡ true
    → (dominates im (merged_label a b (highest (profile_of im))) a ≡ true) × (dominates im (merged_label a b (highest (profile_of im))) b ≡ true)
unfolding dominates dominates_level dominates_compartments merged_label merge_levels merge_sets
highest-dominates im a b ea eb =
    let up = groups-up a b (profile_of im) in
    let merged : Marks = merged_label a b (highest (profile_of im)) in (
      rw (le-leb _ _ (le-max_left a.level b.level), within-union-left a.compartments b.compartments) (held-groups im merged a ea up.0),
      rw (le-leb _ _ (le-max_right a.level b.level), within-union-right a.compartments b.compartments) (held-groups im merged b eb up.1),
    )

-- the lowest merge exists, and both labels dominate it
lowest-groups : (p : Profile) (a b : Marks) (n : ℕ) → a.groups < 2 ^ n → b.groups < 2 ^ n → (merged_label a b (lowest p)).groups < 2 ^ n
unfolding merged_label merge_sets
lowest-groups Tree a b n ha hb = intersection-below a.groups b.groups n ha
lowest-groups Release a b n ha hb = union-below a.groups b.groups n ha hb

lowest-exists : (im : List ℕ) (a b : Marks) → label_exists im a ≡ true → label_exists im b ≡ true
    → label_exists im (merged_label a b (lowest (profile_of im))) ≡ true
unfolding merged_label merge_levels merge_sets
lowest-exists im a b ea eb =
    let x = exists-means im a ea in
    means-exists im (merged_label a b (lowest (profile_of im)))
    (record {
      level = omega (arith, x.level);
      compartments = intersection-below a.compartments b.compartments (compartments im) x.compartments;
      groups = lowest-groups (profile_of im) a b (groups im) x.groups (exists-means im b eb).groups;
    })

pub lowest-dominated : (im : List ℕ) (a b : Marks) → label_exists im a ≡ true → label_exists im b ≡ true
    → (dominates im a (merged_label a b (lowest (profile_of im))) ≡ true) × (dominates im b (merged_label a b (lowest (profile_of im))) ≡ true)
unfolding dominates dominates_level dominates_compartments merged_label merge_levels merge_sets
lowest-dominated im a b ea eb =
    let down = groups-down a b (profile_of im) in
    let merged : Marks = merged_label a b (lowest (profile_of im)) in
    let exists = lowest-exists im a b ea eb in (
      rw (le-leb _ _ (min-le_left a.level b.level), intersection-within-left a.compartments b.compartments)
          (held-groups im a merged exists down.0),
      rw (le-leb _ _ (min-le_right a.level b.level), intersection-within-right a.compartments b.compartments)
          (held-groups im b merged exists down.1),
    )
