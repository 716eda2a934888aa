use Prim.Native.Nat.{ℕ, ◌-◌, ◌<◌}
use mathlib.Core.List.{List, flatten}
use lib.ListN.{drop}
use Rattle.header.specs.declared.layout.Kind.{Kind}
use Rattle.header.specs.Layout.{records_of, Standing}
use Rattle.buffers.proofs.Left.{Left}
use Rattle.writing.proofs.apart.put_records.Given as goal

-- the records from place i on, one right after the other
abbrev pub rest : List ℕ → Kind → ℕ → List ℕ
rest im kind i = flatten (drop i (records_of im kind))

-- past the last place `here` may stand for none
abbrev pub invariant-loop-from : goal.invariant-loop-from
invariant-loop-from l =
    (l.from < l.shape.count → Standing l.shape l.from l.here)
    × Left l.initial.buffer 0 (flatten (records_of l.image l.kind)) l.buffer l.end (rest l.image l.kind l.from)

abbrev pub decreases-loop-from : goal.decreases-loop-from
decreases-loop-from l = l.shape.count - l.from
