use Prim.Native.Nat.{◌+◌, ◌-◌}
use mathlib.Core.Path.{◌≡◌}
use native.Mathlib.Omega.{arith}
use Rattle.hierarchy.proofs.Steps.{putting-start, putting-next, putting-end}
use Rattle.hierarchy.proofs.order.put_walk.Goals as goal

pub loop-i-init : goal.loop-i-init
loop-i-init c = putting-start _ _ _ _ _ c.requires.table_len c.requires.from_le_end

pub loop-i-preserved : goal.loop-i-preserved
loop-i-preserved c =
    let slot : 512 + (c.loop-i.i - 1) ≡ 511 + c.loop-i.i = omega arith in
    let place : c.loop-i.i - 1 + 1 ≡ c.loop-i.i = omega arith in
    rw (slot, place) (putting-next _ _ _ _ _ _ _ _ _ c.loop-i.invariant c.loop-i-test.true _ (rw slot at c.number2-at.ensures.0))

pub returns : goal.returns
returns c = putting-end _ _ _ _ _ _ _ _ _ c.loop-i.invariant c.loop-i-test.false
