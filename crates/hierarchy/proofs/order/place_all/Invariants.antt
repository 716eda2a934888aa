use Rattle.hierarchy.proofs.OrderTurns.{Turn}
use Rattle.hierarchy.proofs.order.place_all.Given as goal

abbrev pub invariant-loop-g : goal.invariant-loop-g
invariant-loop-g l = Turn l.count l.initial.table l.table l.places l.end l.g
