use Prim.Native.Nat.{◌+◌, ◌≤◌}
use lib.ListN.{length, drop}
use Rattle.buffers.proofs.Left.{Left}
use Rattle.buffers.proofs.given.put_short.Given as goal

abbrev pub invariant-loop-i : goal.invariant-loop-i
invariant-loop-i l = (l.i ≤ length l.text) × Left l.initial.buffer l.at l.text l.buffer (l.at + l.i) (drop l.i l.text)
