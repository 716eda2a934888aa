use Rattle.rows.proofs.Adding.{Seek}
use Rattle.rows.proofs.scan.nth_kept.Given as goal

abbrev pub invariant-loop-row : goal.invariant-loop-row
invariant-loop-row g l =
    Seek (g.T.RowTest.passes l.test) l.run l.width l.n l.row-iterator.size l.at l.left l.row-iterator.rest.now
