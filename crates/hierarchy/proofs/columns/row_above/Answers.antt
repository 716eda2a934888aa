use borrow.Author.Tests.{lt-ltb, le-ltb}
use Rattle.hierarchy.specs.Columns.{row_above}
use Rattle.hierarchy.proofs.columns.row_above.Goals as goal

pub returns-then-p-count : goal.returns-then-p-count
unfolding row_above
returns-then-p-count c = rw (lt-ltb _ _ c.if-p-count.true)

pub returns-else-p-count : goal.returns-else-p-count
unfolding row_above
returns-else-p-count c = rw (le-ltb _ _ c.if-p-count.false)
