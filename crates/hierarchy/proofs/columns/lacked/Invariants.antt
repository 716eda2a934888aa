use Rattle.hierarchy.proofs.ColumnTurns.{Passing}
use Rattle.hierarchy.proofs.columns.lacked.Given as goal

abbrev pub invariant-loop-i : goal.invariant-loop-i
invariant-loop-i l = Passing l.count l.table l.initial.rows l.rows l.all l.i
