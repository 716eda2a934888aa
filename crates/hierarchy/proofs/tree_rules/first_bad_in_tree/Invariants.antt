use Prim.Native.Nat.{ℕ, ◌-◌, ◌<◌}
use mathlib.Core.Path.{◌≡◌}
use lib.ListN.{length}
use mathlib.Core.Bool.{true}
use Rattle.header.specs.declared.profile.Profile.TheVariants.{Tree}
use Rattle.hierarchy.specs.Forest.{table_room, forest_by}
use Rattle.hierarchy.specs.Users.{user_rule}
use Rattle.hierarchy.proofs.tree_rules.first_bad_in_tree.Given as goal

abbrev pub invariant-loop-from : goal.invariant-loop-from
invariant-loop-from l =
    (length l.rows ≡ table_room) × ((u : ℕ) → u < l.from → u < l.users.count → user_rule Tree (forest_by l.count l.table) l.users l.bytes u ≡ true)

abbrev pub decreases-loop-from : goal.decreases-loop-from
decreases-loop-from l = l.users.count - l.from
