use Prim.Native.Nat.{◌+◌, ◌-◌, ◌≤◌}
use Rattle.buffers.proofs.Stored.{Begun}
use Rattle.rows.proofs.copying.put_row.Given as goal

abbrev pub invariant-loop-i : goal.invariant-loop-i
invariant-loop-i l = (l.i ≤ l.last + 32) × Begun l.initial.buffer l.at l.text l.buffer l.i

abbrev pub decreases-loop-i : goal.decreases-loop-i
decreases-loop-i l = l.last - l.i
