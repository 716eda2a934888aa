use Rattle.refusals.proofs.Passed.{err-passed}
use Rattle.rows.specs.Updating.{update_row_of}
use Rattle.rows.proofs.Giving.{table_at, call-refused}
use Rattle.rows.proofs.update.Goals as goal

pub update_accepted-requires : goal.update_accepted-requires
update_accepted-requires c = (table_at _ _ _ _ _ _ c.in_ok-view.was c.table_rights.ensures).1.0

pub returns : goal.returns
unfolding update_row_of
returns c =
    let g = table_at _ _ _ _ _ _ c.in_ok-view.was c.table_rights.ensures in
    rw (g.0, ← g.1.1) c.update_accepted.ensures

pub returns-in_err-view : goal.returns-in_err-view
unfolding update_row_of
returns-in_err-view c = rw (err-passed _ c.from_residual.ensures.1) (call-refused _ _ _ _ _ _ _ _ c.in_err-view.was c.table_rights.ensures)
