use native.Mathlib.Omega.{arith}
use Rattle.buffers.proofs.Left.{written_then}
use Rattle.writing.proofs.Ended.{block_written}
use Rattle.writing.proofs.block.put_block.Goals as goal

pub returns : goal.returns
returns c =
    let head = c.put_head-start.ensures in
    let rest = c.put-end.ensures in
    block_written _ (omega arith) c.requires.1.1 (written_then (omega arith) head rest) _ (omega (arith, head.stop, rest.stop)) c.put_end.ensures
