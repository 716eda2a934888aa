use Prim.Native.Nat.{◌+◌, ◌-◌}
use native.Mathlib.Nat.{div-le_self}
use native.Mathlib.Omega.{arith}
use Rattle.header.specs.Layout.{blocks_for}
use Rattle.header.proofs.layout.blocks.Goals as goal

pub returns : goal.returns
unfolding blocks_for
returns c =
    let k = c.capacity-held.result in
    let n = c.count.result in
    let h = div-le_self (n + (k - 1)) k in
    (rw (c.capacity-held.ensures.0, c.edition_of.ensures, c.count.ensures.0), omega arith)
