use native.Mathlib.Omega.{arith}
use borrow.Author.Tests.{le-leb, lt-leb}
use Rattle.rows.specs.Run.{run_rows}
use Rattle.rows.proofs.Standing.{flat-whole, rows-wide}
use Rattle.rows.proofs.Answered.{handed-none, handed-done}
use Rattle.rows.proofs.reading.read_whole.Goals as goal

pub returns-then-buffer-run : goal.returns-then-buffer-run
returns-then-buffer-run c =
    let a = c.args in
    handed-none (run_rows a.run.now a.width) _ (rw (flat-whole a.run.now a.width c.requires) (lt-leb _ _ c.if-buffer-run.true))

pub returns : goal.returns
returns c =
    let a = c.args in
    let flat = flat-whole a.run.now a.width c.requires in
    let low = c.requires.wide in
    handed-done (run_rows a.run.now a.width) _ a.width (omega arith) (rows-wide _ _ c.requires)
    (rw flat (le-leb _ _ c.if-buffer-run.false)) _ _ (rw flat c.put_table-end.ensures)
