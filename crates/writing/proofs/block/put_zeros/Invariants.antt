use Prim.Native.Nat.{◌+◌, ◌-◌}
use Rattle.writing.specs.Laid.{zeros}
use Rattle.buffers.proofs.Left.{Left}
use Rattle.writing.proofs.block.put_zeros.Given as goal

abbrev pub invariant-loop-i : goal.invariant-loop-i
invariant-loop-i l = Left l.initial.buffer l.at (zeros l.n) l.buffer l.i (zeros (l.at + l.n - l.i))
