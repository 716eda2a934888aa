use native.Mathlib.Omega.{arith}
use Rattle.fields.proofs.Laws.{part-taken}
use Rattle.buffers.proofs.Left.{written_then}
use Rattle.moves.proofs.widening.put_set.Goals as goal

pub returns : goal.returns
returns c =
    rw part-taken at (written_then (omega arith) c.put-kept.ensures c.put_zeros.ensures)
