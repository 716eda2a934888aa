use Prim.Native.Nat.{ℕ}
use mathlib.Core.List.{List}
use mathlib.Core.Path.{◌≡◌}
use lib.ListN.{length}
use Rattle.sets.specs.Groups.{places_of}
use Rattle.hierarchy.specs.declared.users.Users.{Users}
use Rattle.hierarchy.specs.Forest.{table_room}
use Rattle.hierarchy.specs.UserRows.{Reads, Filled}
use Rattle.hierarchy.proofs.tree_rules.fill_by.Given as goal

abbrev pub invariant-loop-i : goal.invariant-loop-i
invariant-loop-i g l =
    (length l.rows ≡ table_room)
    × ((users : Users) (bytes : List ℕ) → Reads (goal.F-post g l.sets_of) users bytes → Filled (places_of l.all) users bytes l.from l.i l.rows)
