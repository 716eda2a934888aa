use mathlib.Core.Path.{sym, ◌∙◌}
use native.Mathlib.Omega.{arith}
use borrow.Author.Tests.{leb-true}
use Rattle.rows.specs.Run.{run_rows}
use Rattle.rows.specs.Slots.{row_held}
use Rattle.rows.proofs.Standing.{rows-wide}
use Rattle.rows.proofs.Wide.{kept-wide}
use Rattle.rows.proofs.Answered.{handed-none, handed-done}
use Rattle.rows.proofs.by_slots.read_held.Goals as goal

pub returns-then-not-kept_fits : goal.returns-then-not-kept_fits
returns-then-not-kept_fits c = handed-none _ _ (sym c.kept_fits.ensures ∙ c.if-not-kept_fits.true)

pub copy_wide-end-requires : goal.copy_wide-end-requires
copy_wide-end-requires c =
    record { run = (c.requires, omega arith); width_in_bounds = leb-true _ _ (sym c.kept_fits.ensures ∙ c.if-not-kept_fits.false) }

pub returns : goal.returns
returns c =
    let a = c.args in
    let low = c.requires.wide in
    let wide = kept-wide (row_held a.slots.now) a.width (run_rows a.run.now a.width) (rows-wide _ _ c.requires) in
    handed-done _ _ a.width (omega arith) wide (sym c.kept_fits.ensures ∙ c.if-not-kept_fits.false) _ _ c.copy_wide-end.ensures
