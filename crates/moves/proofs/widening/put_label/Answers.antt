use native.Mathlib.Omega.{arith}
use Rattle.buffers.proofs.Left.{written_then}
use Rattle.moves.specs.Moved.{up_label}
use Rattle.moves.proofs.widening.put_label.Goals as goal

pub returns : goal.returns
unfolding up_label
returns c =
    written_then (omega arith) c.put-kept.ensures c.put_set.ensures
