use Rattle.hierarchy.proofs.Steps.{Putting}
use Rattle.hierarchy.proofs.order.put_walk.Given as goal

abbrev pub invariant-loop-i : goal.invariant-loop-i
invariant-loop-i l = Putting l.g l.from l.i l.end l.initial.table l.initial.places l.table l.places l.at
