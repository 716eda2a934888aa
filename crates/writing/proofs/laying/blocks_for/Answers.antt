use Prim.Native.Nat.{◌+◌, ◌-◌}
use native.Mathlib.Nat.{div-le_self}
use native.Mathlib.Omega.{arith}
use Rattle.header.specs.Layout.{blocks_for}
use Rattle.writing.proofs.laying.blocks_for.Goals as goal

pub returns : goal.returns
unfolding blocks_for
returns c =
    let held = c.capacity-held.result in
    let n = c.args.count in
    let h = div-le_self (n + (held - 1)) held in
    (rw c.capacity-held.ensures.0, omega (arith, c.capacity-held.ensures.1))
