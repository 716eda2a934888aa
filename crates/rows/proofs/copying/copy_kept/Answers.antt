use mathlib.Core.Path.{refl, sym, ◌∙◌}
use native.Mathlib.Nat.{zero-add}
use native.Mathlib.Omega.{arith}
use Rattle.buffers.proofs.Left.{left-start, left-room, left-turn, left_end, written_none}
use Rattle.rows.specs.Scan.{row_bytes}
use Rattle.rows.proofs.Adding.{next_row, bytes_next, bytes_none, adds-all, adds_none}
use Rattle.rows.proofs.copying.copy_kept.Goals as goal

pub loop-row-init : goal.loop-row-init
loop-row-init g c =
    rw (c.into_iter-row-iterator.ensures.into_iter_gives, c.chunks_exact-row-items.ensures.rest)
    (c.chunks_exact-row-items.ensures.size, left-start _ _ _ _ refl)

pub put-to-requires : goal.put-to-requires
put-to-requires g c =
    let low = c.requires.run.wide in
    let s = c.in-Some.ensures.steps in
    let inv = c.loop-row.invariant in
    let test = g.T.RowTest.passes c.args.test.now in
    let row = c.in-Some.row.now in
    let step = bytes_next test c.args.width (omega arith) _ _ _ (next_row s.1.0 (s.1.1 ∙ inv.0)) in
    rw (← adds-all test row (sym c.passes.ensures ∙ c.if-passes.true))
    (left-room _ _ _ _ _ _ inv.1 (row_bytes test row) _ step (rw zero-add c.requires.width_in_bounds))

pub loop-row-preserved-then-passes : goal.loop-row-preserved-then-passes
loop-row-preserved-then-passes g c =
    let low = c.requires.run.wide in
    let s = c.in-Some.ensures.steps in
    let inv = c.loop-row.invariant in
    let test = g.T.RowTest.passes c.args.test.now in
    let row = c.in-Some.row.now in
    let step = bytes_next test c.args.width (omega arith) _ _ _ (next_row s.1.0 (s.1.1 ∙ inv.0)) in
    let all = adds-all test row (sym c.passes.ensures ∙ c.if-passes.true) in
    (s.0 ∙ inv.0, left-turn _ _ _ _ _ _ inv.1 (row_bytes test row) _ step _ _ (rw zero-add c.requires.width_in_bounds) (rw all c.put-to.ensures))

pub loop-row-preserved : goal.loop-row-preserved
loop-row-preserved g c =
    let low = c.requires.run.wide in
    let s = c.in-Some.ensures.steps in
    let inv = c.loop-row.invariant in
    let test = g.T.RowTest.passes c.args.test.now in
    let row = c.in-Some.row.now in
    let step = bytes_next test c.args.width (omega arith) _ _ _ (next_row s.1.0 (s.1.1 ∙ inv.0)) in
    let none = adds_none test row (sym c.passes.ensures ∙ c.if-passes.false) in
    (s.0 ∙ inv.0, left-turn _ _ _ _ _ _ inv.1 (row_bytes test row) _ step _ _ (rw zero-add c.requires.width_in_bounds) (written_none _ _ _ none))

pub shape_of-buffer : goal.shape_of-buffer
shape_of-buffer g c = c.loop-row.invariant.1.long

pub returns : goal.returns
returns g c =
    let low = c.requires.run.wide in
    left_end _ _ _ _ _ _ c.loop-row.invariant.1
    (bytes_none _ c.args.width (omega arith) _ (omega (arith, c.loop-row.invariant.0, c.in-None.ensures.steps.1.0)))
