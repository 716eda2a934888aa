use Rattle.rows.proofs.Adding.{Count}
use Rattle.rows.proofs.scan.kept_length.Given as goal

abbrev pub invariant-loop-row : goal.invariant-loop-row
invariant-loop-row g l = Count (g.T.RowTest.passes l.test) l.run l.width l.row-iterator.size l.n l.row-iterator.rest.now
