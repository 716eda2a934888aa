use Rattle.sets.specs.Transposed.{Staged}
use Rattle.sets.proofs.transposed.stage.Given as goal

abbrev pub invariant-loop-i : goal.invariant-loop-i
invariant-loop-i l = Staged l.s l.mask l.t l.next l.i l.from l.to
