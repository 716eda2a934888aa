use Prim.Native.Nat.{ℕ, ◌+◌, ◌-◌, ◌≤◌}
use mathlib.Core.Path.{◌≡◌}
use mathlib.Core.Bool.{Bool}
use mathlib.Core.List.{List}
use lib.Dec.{eqb}
use lib.ListN.{length}
use Rattle.fields.specs.Scan.{places_where}
use Rattle.records.specs.Fields.{class_of}
use Rattle.records.specs.Rules.{record_in, run_records}
use Rattle.writing.proofs.counting.class_total.Given as goal

abbrev pub named : List ℕ → ℕ → ℕ → Bool
named components class i = eqb (class_of (record_in (run_records 40 components) i)) class

-- those before place i are counted
abbrev pub invariant-loop-i : goal.invariant-loop-i
invariant-loop-i l =
    (l.held ≤ l.i)
    × (l.held + length (places_where (named l.components l.class) (l.count - l.i) l.i)
    ≡ length (places_where (named l.components l.class) l.count 0))
