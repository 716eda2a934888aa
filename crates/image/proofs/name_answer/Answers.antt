use mathlib.Core.Path.{sym, ◌∙◌}
use Rattle.refusals.proofs.Passed.{err-passed}
use Rattle.image.specs.Lookup.{name_answer}
use Rattle.image.proofs.Accepted.{accepted-counted}
use Rattle.image.proofs.name_answer.Goals as goal

pub returns-in_err-check : goal.returns-in_err-check
unfolding name_answer
returns-in_err-check c = rw (err-passed _ c.from_residual.ensures.1, ← c.check.ensures, c.in_err-check.was)

pub has_component-requires : goal.has_component-requires
has_component-requires c = accepted-counted _ (sym c.check.ensures ∙ c.in_ok-check.was)

pub returns-then-has_component : goal.returns-then-has_component
unfolding name_answer
returns-then-has_component c = rw (← c.check.ensures, c.in_ok-check.was, sym c.has_component.ensures ∙ c.if-has_component.true)

pub returns-else-has_component : goal.returns-else-has_component
unfolding name_answer
returns-else-has_component c = rw (← c.check.ensures, c.in_ok-check.was, sym c.has_component.ensures ∙ c.if-has_component.false)
