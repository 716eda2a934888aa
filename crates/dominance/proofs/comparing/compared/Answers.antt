use mathlib.Core.Path.{sym, ◌∙◌}
use Rattle.refusals.proofs.Passed.{err-passed}
use Rattle.image.proofs.Accepted.{accepted-counted}
use Rattle.dominance.specs.TwoLabels.{compared_answer}
use Rattle.dominance.proofs.comparing.compared.Goals as goal

pub returns-in_err-check : goal.returns-in_err-check
unfolding compared_answer
returns-in_err-check c = rw (err-passed _ c.from_residual.ensures.1, ← c.check.ensures, c.in_err-check.was)

pub label_exists-requires : goal.label_exists-requires
label_exists-requires c = accepted-counted _ (sym c.check.ensures ∙ c.in_ok-check.was)

pub label_exists-requires-2 : goal.label_exists-requires-2
label_exists-requires-2 c = accepted-counted _ (sym c.check.ensures ∙ c.in_ok-check.was)
