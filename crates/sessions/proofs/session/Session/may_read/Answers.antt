use Rattle.refusals.proofs.Passed.{err-passed}
use Rattle.sessions.specs.Asking.{may_read_of}
use Rattle.sessions.proofs.Accepting.{lent-accepted, lent_at, lent-refused}
use Rattle.sessions.proofs.session.Session.may_read.Goals as goal

pub may_read-requires : goal.may_read-requires
may_read-requires c =
    let g = lent_at _ _ _ _ _ c.in_ok-view.was c.lent_rights.ensures in
    lent-accepted _ _ g.0

pub returns-in_err-view : goal.returns-in_err-view
unfolding may_read_of
returns-in_err-view c =
    rw (err-passed _ c.from_residual.ensures.1, lent-refused _ _ _ _ _ c.in_err-view.was c.lent_rights.ensures)

pub returns : goal.returns
unfolding may_read_of
returns c =
    let g = lent_at _ _ _ _ _ c.in_ok-view.was c.lent_rights.ensures in
    rw (g.0, ← g.1.1, ← c.may_read.ensures)
