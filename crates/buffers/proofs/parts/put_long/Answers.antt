use Prim.Native.Nat.{◌+◌, ◌*◌, ◌-◌, ◌≤◌}
use mathlib.Core.Path.{◌≡◌}
use native.Mathlib.Omega.{arith}
use lib.ListN.{length}
use Rattle.buffers.proofs.Stored.{begun-start, begun-turn, begun-end}
use Rattle.buffers.proofs.parts.put_long.Goals as goal

pub loop-j-init : goal.loop-j-init
loop-j-init c = begun-start _ _ _ c.requires.1

pub loop-j-preserved : goal.loop-j-preserved
loop-j-preserved c =
    let text = c.args.text.now in
    let j = c.loop-j.j in
    let inside : 32 * j + 32 ≤ length text = omega arith in
    let next : 32 * j + 32 ≡ 32 * (j + 1) = omega arith in
    rw next at (begun-turn _ _ text c.requires.1 _ _ c.loop-j.invariant (32 * j) 32 inside (omega arith) (omega arith) _ c.put32.ensures)

pub returns : goal.returns
returns c =
    let text = c.args.text.now in
    let room = c.requires.1 in
    let low : 32 ≤ length text = c.requires.0 in
    let front : length text - 32 ≤ 32 * c.loop-j.j = omega arith in
    let high : 32 * c.loop-j.j ≤ length text - 32 + 32 = omega arith in
    let whole = begun-turn _ _ text room _ _ c.loop-j.invariant (length text - 32) 32 (omega arith) front high _ c.put32-2.ensures in
    begun-end _ _ text room _ _ whole (omega arith)
