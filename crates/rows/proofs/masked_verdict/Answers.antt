use Rattle.refusals.proofs.Passed.{err-passed}
use Rattle.rows.specs.Table.{rows_of}
use Rattle.rows.specs.Masked.{masked_verdict_of}
use Rattle.rows.proofs.Held.{held-means}
use Rattle.rows.proofs.Giving.{table_at, call-refused}
use Rattle.rows.proofs.masked_verdict.Goals as goal

pub place_verdict-requires : goal.place_verdict-requires
place_verdict-requires c =
    let usable = (table_at _ _ _ _ _ _ c.in_ok-view.was c.table_rights.ensures).1.0 in
    record { accepted = usable.accepted; whole = held-means _ _ usable.rule _ c.run_of.ensures }

pub returns : goal.returns
unfolding masked_verdict_of rows_of
returns c =
    let g = table_at _ _ _ _ _ _ c.in_ok-view.was c.table_rights.ensures in
    rw (g.0, ← g.1.1, ← c.run_of.ensures) c.place_verdict.ensures

pub returns-in_err-view : goal.returns-in_err-view
unfolding masked_verdict_of
returns-in_err-view c = rw (err-passed _ c.from_residual.ensures.1) (call-refused _ _ _ _ _ _ _ _ c.in_err-view.was c.table_rights.ensures)
