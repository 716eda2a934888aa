use native.Mathlib.Omega.{arith}
use Rattle.rows.proofs.Answered.{place_none, place_inside, place-asked}
use Rattle.rows.proofs.masking.place_verdict.Goals as goal

pub returns-then-run-width : goal.returns-then-run-width
returns-then-run-width c = place_none _ _ _ _ _ c.if-run-width.true

pub row_offset-at-requires : goal.row_offset-at-requires
row_offset-at-requires c =
    let a = c.args in
    let inside = place_inside a.run.now a.width a.place c.if-run-width.false in
    omega arith

pub overflow_add-at : goal.overflow_add-at
overflow_add-at c =
    let a = c.args in
    let inside = place_inside a.run.now a.width a.place c.if-run-width.false in
    omega (arith, c.row_offset-at.ensures)

pub slice_bounds-is_readable-end : goal.slice_bounds-is_readable-end
slice_bounds-is_readable-end c =
    let a = c.args in
    let inside = place_inside a.run.now a.width a.place c.if-run-width.false in
    omega (arith, c.row_offset-at.ensures)

pub returns : goal.returns
returns c = place-asked _ _ _ _ _ c.if-run-width.false _ c.row_offset-at.ensures _ c.is_readable.ensures
