use mathlib.Core.Path.{◌≡◌, sym, ◌∙◌}
use mathlib.Core.Bool.{true, false, cond, ◌&&◌}
use Prim.Native.Nat.{◌+◌, ◌-◌}
use native.Mathlib.Nat.{zero-add}
use native.Mathlib.Omega.{arith}
use borrow.Author.Tests.{ne_eqb}
use lib.Dec.{eqb}
use Rattle.rows.proofs.Adding.{Seek, next_row, seek-room, seek_found, seek-turn, seek-end}
use Rattle.rows.proofs.scan.nth_kept.Goals as goal
use Rattle.rows.proofs.scan.nth_kept.Goals.{then-passes+else-left-eq0, else-passes}

pub loop-row-init : goal.loop-row-init
loop-row-init g c =
    rw (c.into_iter-row-iterator.ensures.into_iter_gives, c.chunks_exact-row-items.ensures.rest)
    record { wide = c.chunks_exact-row-items.ensures.size; place = zero-add _; sum = zero-add _ }

pub returns-then-left-eq0 : goal.returns-then-left-eq0
returns-then-left-eq0 g c =
    let s = c.in-Some.ensures.steps in
    seek_found _ _ _ c.requires _ _ _ _ _ c.loop-row.invariant _ _ (next_row s.1.0 s.1.1) (sym c.passes.ensures ∙ c.if-passes.true) c.if-left-eq0.true

pub overflow_add-at : goal.overflow_add-at
overflow_add-at g c =
    let s = c.in-Some.ensures.steps in
    omega (arith, seek-room _ _ _ c.requires _ _ _ _ _ c.loop-row.invariant _ _ (next_row s.1.0 s.1.1))

pub loop-row-preserved : goal.loop-row-preserved
loop-row-preserved g c =
    let s = c.in-Some.ensures.steps in
    let before = c.loop-row.left in
    let left = c.if-passes.left in
    let test = g.T.RowTest.passes c.args.test.now in
    let row = c.in-Some.row.now in
    let turn : (test row && eqb before 0) ≡ false → left ≡ cond (test row) (before - 1) before
    → Seek test c.args.run.now c.args.width c.args.n c.next.new.self.size (c.loop-row.at + c.args.width) left c.next.new.self.rest.now =
    λ more next. seek-turn test _ _ c.requires _ _ _ _ _ c.loop-row.invariant _ _ (next_row s.1.0 s.1.1) _ _ s.0 more next in
    elim c.if-passes.branch [
      | then-passes+else-left-eq0 w ↦
          let passed : test row ≡ true = sym c.passes.ensures ∙ w.if-passes.true in
          turn (rw (passed, ne_eqb before 0 w.if-left-eq0.false)) (rw passed w.left-is)
      | else-passes w ↦
          let failed : test row ≡ false = sym c.passes.ensures ∙ w.if-passes.false in
          turn (rw failed) (rw failed w.left-is)
    ]

pub returns : goal.returns
returns g c = seek-end _ _ _ c.requires _ _ _ _ _ c.loop-row.invariant c.in-None.ensures.steps.1.0
