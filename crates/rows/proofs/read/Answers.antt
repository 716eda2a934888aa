use Rattle.refusals.proofs.Passed.{err-passed}
use Rattle.rows.specs.Table.{rows_of, readable_rows}
use Rattle.rows.specs.Reading.{read_rows_of}
use Rattle.rows.proofs.Held.{held-means}
use Rattle.rows.proofs.Giving.{table_at, call-refused}
use Rattle.rows.proofs.read.Goals as goal

pub read_accepted-requires : goal.read_accepted-requires
read_accepted-requires c =
    let usable = (table_at _ _ _ _ _ _ c.in_ok-view.was c.table_rights.ensures).1.0 in
    record { accepted = usable.accepted; whole = held-means _ _ usable.rule _ c.run_of.ensures }

pub returns : goal.returns
unfolding read_rows_of readable_rows rows_of
returns c =
    let g = table_at _ _ _ _ _ _ c.in_ok-view.was c.table_rights.ensures in
    rw (g.0, ← g.1.1, ← c.run_of.ensures) c.read_accepted.ensures

pub returns-in_err-view : goal.returns-in_err-view
unfolding read_rows_of
returns-in_err-view c = rw (err-passed _ c.from_residual.ensures.1) (call-refused _ _ _ _ _ _ _ _ c.in_err-view.was c.table_rights.ensures)
