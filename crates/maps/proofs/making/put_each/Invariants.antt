use Prim.Native.Nat.{◌-◌, ◌≤◌}
use Rattle.buffers.proofs.Left.{Left}
use Rattle.maps.specs.Words.{bytes_of}
use Rattle.maps.proofs.making.put_each.Given as goal

abbrev pub invariant-loop-i : goal.invariant-loop-i
invariant-loop-i l = (l.i ≤ l.n) × Left l.initial.to 0 (bytes_of l.n l.w) l.to l.i (bytes_of (l.n - l.i) l.rest)
