use Rattle.refusals.proofs.Passed.{err-passed}
use Rattle.sessions.specs.Changes.{set_label_of}
use Rattle.sessions.proofs.Accepting.{lent-accepted, lent-user, lent_at, lent-refused}
use Rattle.sessions.proofs.session.Session.set_label.Goals as goal

pub change_label-requires : goal.change_label-requires
change_label-requires c =
    let g = lent_at _ _ _ _ _ c.in_ok-lent_rights.was c.lent_rights.ensures in
    (lent-accepted _ _ g.0, (g.1.0, lent-user _ _ g.0))

pub returns-in_err-lent_rights : goal.returns-in_err-lent_rights
unfolding set_label_of
returns-in_err-lent_rights c =
    rw (err-passed _ c.from_residual.ensures.1, lent-refused _ _ _ _ _ c.in_err-lent_rights.was c.lent_rights.ensures)

pub returns : goal.returns
unfolding set_label_of
returns c =
    let g = lent_at _ _ _ _ _ c.in_ok-lent_rights.was c.lent_rights.ensures in
    rw g.0 c.change_label.ensures
