use Prim.Native.Nat.{◌<◌}
use mathlib.Core.Path.{ap₂, ◌∙◌}
use native.Mathlib.Omega.{arith}
use Rattle.sets.specs.Transposed.{low_row, high_row}
use Rattle.sets.proofs.FourRows.{staged-none, one-long, two-long, three-long, staged-next}
use Rattle.sets.proofs.transposed.stage.Goals as goal

pub loop-i-init : goal.loop-i-init
loop-i-init c = staged-none _ _ _ _ _ _ c.requires.1.0

pub bounds-to-i-in-loop-i : goal.bounds-to-i-in-loop-i
bounds-to-i-in-loop-i c =
    let loop = c.loop-i in
    let h : loop.i < 16 = omega arith in
    omega (arith, one-long loop.to loop.i c.low_row.result 0 0 0 h loop.invariant.size)

pub bounds-to-i-in-loop-i-2 : goal.bounds-to-i-in-loop-i-2
bounds-to-i-in-loop-i-2 c =
    let loop = c.loop-i in
    let h : loop.i < 16 = omega arith in
    omega (arith, two-long loop.to loop.i c.low_row.result c.high_row.result 0 0 h loop.invariant.size)

pub bounds-to-i-in-loop-i-3 : goal.bounds-to-i-in-loop-i-3
bounds-to-i-in-loop-i-3 c =
    let loop = c.loop-i in
    let h : loop.i < 16 = omega arith in
    let w0 = c.low_row.result in
    omega (arith, three-long loop.to loop.i w0 c.high_row.result c.low_row-in-loop-i.result 0 h loop.invariant.size)

pub loop-i-preserved : goal.loop-i-preserved
loop-i-preserved c =
    let loop = c.loop-i in
    let h : loop.i < 16 = omega arith in
    let t = c.args.t in
    let next = c.args.next in
    let e = c.low_row-e.ensures in
    let f = c.low_row-f.ensures in
    let g = c.high_row-g.ensures in
    let k = c.high_row-h.ensures in
    staged-next _ _ _ _ _ _ h loop.invariant.size _ _ _ _ _ loop.invariant (c.low_row.ensures ∙ ap₂ (low_row t next) e f)
    (c.high_row.ensures ∙ ap₂ (high_row t next) e f) (c.low_row-in-loop-i.ensures ∙ ap₂ (low_row t next) g k)
    (c.high_row-in-loop-i.ensures ∙ ap₂ (high_row t next) g k)
