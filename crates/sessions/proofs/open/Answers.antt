use mathlib.Core.Path.{sym, ◌∙◌}
use Rattle.refusals.proofs.Passed.{err-passed}
use Rattle.image.proofs.Accepted.{accepted-counted}
use Rattle.sessions.specs.Opening.{open_of}
use Rattle.sessions.proofs.open.Goals as goal

pub open_accepted-requires : goal.open_accepted-requires
open_accepted-requires c = accepted-counted _ (sym c.check.ensures ∙ c.in_ok-check.was)

pub returns-in_err-check : goal.returns-in_err-check
unfolding open_of
returns-in_err-check c = rw (err-passed _ c.from_residual.ensures.1) (rw (sym c.check.ensures ∙ c.in_err-check.was))

pub returns : goal.returns
unfolding open_of
returns c = rw (sym c.check.ensures ∙ c.in_ok-check.was) c.open_accepted.ensures
