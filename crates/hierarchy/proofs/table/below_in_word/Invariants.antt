use Rattle.hierarchy.proofs.InOrder.{Descending}
use Rattle.hierarchy.proofs.table.below_in_word.Given as goal

abbrev pub invariant-loop-i : goal.invariant-loop-i
invariant-loop-i l = Descending l.count l.table l.initial.groups l.groups l.i
