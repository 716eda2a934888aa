use mathlib.Core.Path.{sym, ◌∙◌}
use Rattle.refusals.proofs.Passed.{err-passed}
use Rattle.sessions.specs.Session.{lent_answer}
use Rattle.sessions.proofs.given.lent_rights.Goals as goal

pub lent_accepted-requires : goal.lent_accepted-requires
lent_accepted-requires c =
    let checked = c.check_table.ensures in
    (sym checked.told ∙ c.in_ok-check_table.was, checked.filled c.in_ok-check_table.was)

pub returns-in_err-check_table : goal.returns-in_err-check_table
unfolding lent_answer
returns-in_err-check_table c =
    rw (err-passed _ c.from_residual.ensures.1) (rw (sym c.check_table.ensures.told ∙ c.in_err-check_table.was))
