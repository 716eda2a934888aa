use Rattle.refusals.proofs.Passed.{err-passed}
use mathlib.Core.Path.{sym, ◌∙◌}
use Rattle.sessions.proofs.Accepting.{lent_at, lent-refused}
use Rattle.rows.proofs.Giving.{refused-first, refused-shape, gives_at}
use Rattle.rows.proofs.table_rights.Goals as goal

pub returns-then-not-table_ok : goal.returns-then-not-table_ok
returns-then-not-table_ok c =
    let g = lent_at _ _ _ _ _ c.in_ok-view.was c.lent_rights.ensures in
    refused-shape _ _ _ _ g.0 (sym c.table_ok.ensures ∙ c.if-not-table_ok.true)

pub returns : goal.returns
returns c =
    let g = lent_at _ _ _ _ _ c.in_ok-view.was c.lent_rights.ensures in
    gives_at _ _ _ _ _ g.0 g.1.1 (sym c.table_ok.ensures ∙ c.if-not-table_ok.false)

pub returns-in_err-view : goal.returns-in_err-view
returns-in_err-view c =
    rw (err-passed _ c.from_residual.ensures.1) (refused-first _ _ _ _ _ (lent-refused _ _ _ _ _ c.in_err-view.was c.lent_rights.ensures))
