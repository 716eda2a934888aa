use mathlib.Core.Path.{sym, ◌∙◌}
use Rattle.refusals.proofs.Passed.{err-passed}
use Rattle.image.proofs.Accepted.{accepted-counted}
use Rattle.moves.specs.Moving.{compaccess_users_of}
use Rattle.moves.proofs.OldAccepted.{old-accepted}
use Rattle.moves.proofs.compaccess_users.Goals as goal

pub list_accepted-requires : goal.list_accepted-requires
list_accepted-requires c =
    let kept = old-accepted _ (sym c.old_check.ensures ∙ c.in_ok-old_check.was) in
    accepted-counted _ kept.0

pub returns : goal.returns
unfolding compaccess_users_of
returns c =
    rw (sym c.old_check.ensures ∙ c.in_ok-old_check.was) c.list_accepted.ensures

pub returns-in_err-old_check : goal.returns-in_err-old_check
unfolding compaccess_users_of
returns-in_err-old_check c =
    rw (err-passed _ c.from_residual.ensures.1) (rw (sym c.old_check.ensures ∙ c.in_err-old_check.was))
