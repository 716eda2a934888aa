use Prim.Native.Nat.{◌*◌}
use Rattle.hierarchy.proofs.PutSets.{Turning}
use Rattle.hierarchy.proofs.set_rows.turn_over.Given as goal

abbrev pub invariant-loop-j : goal.invariant-loop-j
invariant-loop-j l = Turning (64 * l.j) l.initial.rows l.rows
