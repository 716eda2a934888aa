use native.Mathlib.Omega.{arith}
use Rattle.writing.proofs.Ended.{found-bytes, sums-room, end-written}
use Rattle.writing.proofs.block.put_end.Goals as goal

pub overflow_cast-a : goal.overflow_cast-a
overflow_cast-a c = omega (arith, (found-bytes _ _ c.sums-found.ensures).0)

pub overflow_cast-b : goal.overflow_cast-b
overflow_cast-b c = omega (arith, (found-bytes _ _ c.sums-found.ensures).1)

pub put-requires : goal.put-requires
put-requires c =
    sums-room _ _ c.requires.0 c.requires.1 c.put_zeros.ensures

pub returns : goal.returns
returns c =
    end-written _ _ c.requires.0 c.requires.1 c.put_zeros.ensures _ c.sums-found.ensures c.put.ensures
