use mathlib.Core.Path.{sym, ◌∙◌}
use native.Mathlib.Omega.{arith}
use Rattle.rows.proofs.Adding.{next_row, count_room, count_pass, count_fail, count-end}
use Rattle.rows.proofs.scan.kept_length.Goals as goal

pub loop-row-init : goal.loop-row-init
loop-row-init g c =
    rw (c.into_iter-row-iterator.ensures.into_iter_gives, c.chunks_exact-row-items.ensures.rest)
    record { wide = c.chunks_exact-row-items.ensures.size; sum = omega arith }

pub overflow_add-n : goal.overflow_add-n
overflow_add-n g c =
    let s = c.in-Some.ensures.steps in
    let fits = count_room _ _ _ c.requires _ _ _ c.loop-row.invariant _ _ (next_row s.1.0 s.1.1) (sym c.passes.ensures ∙ c.if-passes.true) in
    omega (arith, fits)

pub loop-row-preserved-then-passes : goal.loop-row-preserved-then-passes
loop-row-preserved-then-passes g c =
    let s = c.in-Some.ensures.steps in
    count_pass _ _ _ c.requires _ _ _ c.loop-row.invariant _ _ (next_row s.1.0 s.1.1) _ s.0 (sym c.passes.ensures ∙ c.if-passes.true)

pub loop-row-preserved : goal.loop-row-preserved
loop-row-preserved g c =
    let s = c.in-Some.ensures.steps in
    count_fail _ _ _ c.requires _ _ _ c.loop-row.invariant _ _ (next_row s.1.0 s.1.1) _ s.0 (sym c.passes.ensures ∙ c.if-passes.false)

pub returns : goal.returns
returns g c = count-end _ _ _ c.requires _ _ _ c.loop-row.invariant c.in-None.ensures.steps.1.0
