-- Two images that hold the same have forests that are alike: the same ancestors of each group, and the same groups below a set.
-- Assumes nothing.
use Prim.Native.Nat.{ℕ, ◌<◌}
use mathlib.Core.Path.{◌≡◌, ap₂}
use mathlib.Core.List.{List}
use native.Mathlib.Omega.{arith}
use Rattle.header.specs.declared.profile.Profile.{Profile}
use Rattle.header.specs.Layout.{by_profile, groups, users}
use Rattle.hierarchy.specs.Below.{group_sets_in, record_sets, forest_of, ends_rule, below, reach, group_sets_rule}
use Rattle.hierarchy.proofs.Alike as forests
use Rattle.hierarchy.proofs.Alike.{Alike, sets-alike}
use Rattle.hierarchy.proofs.OfImage.{user-record}
use Rattle.moves.proofs.HoldsSame.{HoldsTheSame}

module _ {change : ℕ → ℕ} (im new : List ℕ) (same : HoldsTheSame change im new) where
  alike : Alike (forest_of im) (forest_of new)
  alike = record { count = same.same_groups; parents = same.parents; parent_same = same.parent_same }

  pub ends-alike : (g : ℕ) → g < groups im → ends_rule new g ≡ ends_rule im g
  ends-alike = forests.ends-alike (forest_of im) (forest_of new) alike

  pub below_alike : (s : ℕ) → below new s ≡ below im s
  below_alike = forests.below_alike (forest_of im) (forest_of new) alike

  -- what groups reach
  pub reach-alike : (s : ℕ) → reach new s ≡ reach im s
  unfolding reach
  reach-alike s = ap₂ (λ (p : Profile) (t : ℕ). by_profile p t s) same.same_profile (below_alike s)

  -- so a user's groups stand among each other as they did
  pub sets-rule-alike : (u : ℕ) → u < users im → group_sets_rule new u ≡ group_sets_rule im u
  unfolding group_sets_in record_sets
  sets-rule-alike u h =
      let k = same.user u h in
      let there : u < users new = omega (arith, same.same_users) in
      rw (
        user-record im u h,
        user-record new u there,
        k.groups_read,
        k.groups_write,
        k.groups_default,
        k.groups_row,
        sets-alike (forest_of im) (forest_of new) alike _ _ _ _,
        same.same_profile,
      )
