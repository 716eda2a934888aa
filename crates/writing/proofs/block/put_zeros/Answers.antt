use Prim.Native.Nat.{◌+◌, ◌≤◌}
use mathlib.Core.Path.{◌≡◌}
use native.Mathlib.Omega.{arith}
use Rattle.writing.proofs.Ended.{zeros-start, zeros-turn, zeros-end}
use Rattle.writing.proofs.block.put_zeros.Goals as goal

pub loop-i-init : goal.loop-i-init
loop-i-init c = zeros-start _ _ _

pub bounds-buffer-i : goal.bounds-buffer-i
bounds-buffer-i c = omega (arith, c.loop-i.invariant.long)

pub loop-i-preserved : goal.loop-i-preserved
loop-i-preserved c =
    let low : c.args.at ≤ c.loop-i.i = omega arith in
    zeros-turn _ _ _ _ _ c.requires low c.loop-i-test.true c.loop-i.invariant

pub shape_of-buffer : goal.shape_of-buffer
shape_of-buffer c = c.loop-i.invariant.long

pub returns : goal.returns
returns c =
    let end : c.loop-i.i ≡ c.args.at + c.args.n = omega arith in
    rw end at (zeros-end _ _ _ _ _ c.loop-i-test.false c.loop-i.invariant)
