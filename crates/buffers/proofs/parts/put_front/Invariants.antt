use Prim.Native.Nat.{◌*◌}
use Rattle.buffers.proofs.Stored.{Begun}
use Rattle.buffers.proofs.parts.put_front.Given as goal

abbrev pub invariant-loop-j : goal.invariant-loop-j
invariant-loop-j l = Begun l.initial.buffer l.at l.text l.buffer (256 * l.j)
