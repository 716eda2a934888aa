use mathlib.Core.List.{flatten}
use Rattle.buffers.proofs.Left.{Left}
use Rattle.moves.specs.Parts.{new_run}
use Rattle.moves.proofs.packing.put_records.Given as goal

abbrev pub invariant-loop-i : goal.invariant-loop-i
invariant-loop-i g l =
    let run = new_run g.S.Step.which l.image l.kind in
    Left l.initial.buffer l.at (flatten (run l.from l.to)) l.buffer l.end (flatten (run l.i l.to))
