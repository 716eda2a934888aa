use Rattle.writing.proofs.KindSteps.{then-written}
use Rattle.moves.proofs.Steps.{parent-length}
use native.Mathlib.Omega.{arith}
use Rattle.buffers.proofs.Left.{written_then}
use Rattle.moves.specs.Moved.{up_component}
use Rattle.moves.proofs.widening.put_component.Goals as goal

pub returns : goal.returns
unfolding up_component
returns c =
    let written = written_then (omega arith) c.put-kept.ensures c.put_number-end.ensures in
    rw c.wide_parent-parent.ensures.0 at
    (then-written 36 4 (parent-length c.args.rec.now _ c.requires.0) c.requires.1 written c.put_zeros.ensures)
