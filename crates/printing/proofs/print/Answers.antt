use mathlib.Core.Path.{sym, ◌∙◌}
use Rattle.refusals.proofs.Passed.{err-passed}
use Rattle.printing.specs.Print.{print_of}
use Rattle.printing.proofs.print.Goals as goal

pub print_accepted-requires : goal.print_accepted-requires
print_accepted-requires c = sym c.check.ensures ∙ c.in_ok-check.was

pub returns-in_err-check : goal.returns-in_err-check
unfolding print_of
returns-in_err-check c = rw (err-passed _ c.from_residual.ensures.1, ← c.check.ensures, c.in_err-check.was)

pub returns : goal.returns
unfolding print_of
returns c = rw (← c.check.ensures, c.in_ok-check.was) c.print_accepted.ensures
