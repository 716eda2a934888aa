use Rattle.hierarchy.specs.Forest.{parent_by}
use Rattle.hierarchy.proofs.Steps.{Passing}
use Rattle.hierarchy.proofs.order.walk_length.Given as goal

abbrev pub invariant-loop-n : goal.invariant-loop-n
invariant-loop-n l = Passing l.count (λ p. parent_by l.table p) l.places l.g l.at l.n
