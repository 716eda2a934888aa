use Prim.Native.Nat.{◌+◌, ◌*◌, ◌/◌, ◌≤◌}
use mathlib.Core.Path.{◌≡◌}
use native.Mathlib.Omega.{arith}
use lib.ListN.{length}
use Rattle.buffers.proofs.Stored.{begun-start, begun-turn}
use Rattle.buffers.proofs.parts.put_front.Goals as goal

pub loop-j-init : goal.loop-j-init
loop-j-init c = begun-start _ _ _ c.requires

pub loop-j-preserved : goal.loop-j-preserved
loop-j-preserved c =
    let text = c.args.text.now in
    let j = c.loop-j.j in
    let inside : 256 * j + 256 ≤ length text = omega arith in
    let next : 256 * j + 256 ≡ 256 * (j + 1) = omega arith in
    rw next at (begun-turn _ _ text c.requires _ _ c.loop-j.invariant (256 * j) 256 inside (omega arith) (omega arith) _ c.put256.ensures)

pub returns : goal.returns
returns c =
    let all : c.loop-j.j ≡ length c.args.text.now / 256 = omega arith in
    (rw all at c.loop-j.invariant.bytes, omega arith)
