use mathlib.Core.Path.{sym, ◌∙◌}
use native.Mathlib.Omega.{arith}
use borrow.Author.Tests.{leb-true}
use Rattle.rows.specs.Run.{run_rows}
use Rattle.rows.proofs.Standing.{rows-wide}
use Rattle.rows.proofs.Wide.{kept-wide}
use Rattle.rows.proofs.Answered.{handed-none, handed-done}
use Rattle.rows.proofs.scan.read_kept.Goals as goal

pub returns-then-not-kept_fits : goal.returns-then-not-kept_fits
returns-then-not-kept_fits g c = handed-none _ _ (sym c.kept_fits.ensures ∙ c.if-not-kept_fits.true)

pub copy_kept-end-requires : goal.copy_kept-end-requires
copy_kept-end-requires g c =
    record { run = c.requires; width_in_bounds = leb-true _ _ (sym c.kept_fits.ensures ∙ c.if-not-kept_fits.false) }

pub nonzero_div-result : goal.nonzero_div-result
nonzero_div-result g c =
    let low = c.requires.wide in
    omega arith

pub returns : goal.returns
returns g c =
    let a = c.args in
    let whole = c.requires in
    let low = whole.wide in
    let wide =
    kept-wide (g.T.RowTest.passes a.test.now) a.width (run_rows a.run.now a.width) (rows-wide _ _ whole) in
    let room = sym c.kept_fits.ensures ∙ c.if-not-kept_fits.false in
    handed-done _ _ a.width (omega arith) wide room _ _ c.copy_kept-end.ensures
