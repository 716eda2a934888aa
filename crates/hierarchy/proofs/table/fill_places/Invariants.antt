use Prim.Native.Nat.{ℕ, ◌+◌, ◌≤◌, ◌<◌}
use mathlib.Core.Path.{◌≡◌}
use lib.ListN.{length}
use Rattle.header.specs.Layout.{groups, Standing}
use Rattle.hierarchy.specs.Forest.{table_length, parent_by}
use Rattle.hierarchy.specs.Below.{parent}
use Rattle.hierarchy.proofs.table.fill_places.Given as goal

abbrev pub invariant-loop-g : goal.invariant-loop-g
invariant-loop-g l =
    (l.g ≤ groups l.image)
    × (Standing l.shape (l.first + l.g) l.here × ((length l.places ≡ table_length) × ((k : ℕ) → k < l.g → parent_by l.places k ≡ parent l.image k)))
