use Prim.Native.Nat.{ℕ, ◌<◌}
use mathlib.Core.Path.{◌≡◌}
use lib.ListN.{length}
use Rattle.records.specs.Rules.{run_records}
use Rattle.hierarchy.specs.Forest.{table_length, parent_by}
use Rattle.hierarchy.specs.Below.{parent_in}
use Rattle.writing.proofs.groups.fill_places.Given as goal

abbrev pub invariant-loop-g : goal.invariant-loop-g
invariant-loop-g l =
    (length l.places ≡ table_length)
    × ((k : ℕ) → k < l.g → parent_by l.places k ≡ parent_in l.fn.counts (run_records 40 l.components) k)
