use mathlib.Core.Path.{sym, ◌∙◌}
use Rattle.refusals.proofs.Passed.{err-passed}
use Rattle.image.specs.Check.{check_of}
use Rattle.image.proofs.Accepted.{refused-not}
use Rattle.image.proofs.check_table.Goals as goal

pub returns-in_err-first_fault : goal.returns-in_err-first_fault
unfolding check_of
returns-in_err-first_fault c =
    let refused = err-passed _ c.from_residual.ensures.1 in
    record {
      told = rw (refused, ← c.first_fault.ensures.same, c.in_err-first_fault.was);
      filled = λ e. absurd (refused-not _ (sym refused ∙ e));
    }

pub returns : goal.returns
unfolding check_of
returns c =
    let found = c.first_fault.ensures in
    record {
      told = rw (← found.same, c.in_ok-first_fault.was);
      filled = λ e. found.filled c.in_ok-first_fault.was;
    }
