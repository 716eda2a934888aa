use Rattle.refusals.proofs.Passed.{err-passed}
use Rattle.sessions.specs.Asking.{may_write_of}
use Rattle.sessions.proofs.Accepting.{lent-accepted, lent_at, lent-refused}
use Rattle.sessions.proofs.session.Session.may_write.Goals as goal

pub may_write-requires : goal.may_write-requires
may_write-requires c =
    let g = lent_at _ _ _ _ _ c.in_ok-rights.was c.lent_rights.ensures in
    lent-accepted _ _ g.0

pub returns-in_err-rights : goal.returns-in_err-rights
unfolding may_write_of
returns-in_err-rights c =
    rw (err-passed _ c.from_residual.ensures.1, lent-refused _ _ _ _ _ c.in_err-rights.was c.lent_rights.ensures)

pub returns : goal.returns
unfolding may_write_of
returns c =
    let g = lent_at _ _ _ _ _ c.in_ok-rights.was c.lent_rights.ensures in
    rw (g.0, ← g.1.1, ← c.may_write.ensures)
