use Rattle.refusals.proofs.Passed.{err-passed}
use Rattle.sessions.specs.Changes.{set_row_label_of}
use Rattle.sessions.proofs.Accepting.{lent-accepted, lent_at, lent-refused}
use Rattle.sessions.proofs.session.Session.set_row_label.Goals as goal

pub change_row_label-requires : goal.change_row_label-requires
change_row_label-requires c =
    let g = lent_at _ _ _ _ _ c.in_ok-view.was c.lent_rights.ensures in
    (lent-accepted _ _ g.0, g.1.1)

pub returns-in_err-view : goal.returns-in_err-view
unfolding set_row_label_of
returns-in_err-view c =
    rw (err-passed _ c.from_residual.ensures.1, lent-refused _ _ _ _ _ c.in_err-view.was c.lent_rights.ensures)

pub returns : goal.returns
unfolding set_row_label_of
returns c =
    let g = lent_at _ _ _ _ _ c.in_ok-view.was c.lent_rights.ensures in
    rw g.0 c.change_row_label.ensures
