use Prim.Native.Nat.{◌+◌, ◌*◌, ◌-◌, ◌≤◌}
use mathlib.Core.Path.{◌≡◌}
use native.Mathlib.Omega.{arith}
use lib.ListN.{length}
use Rattle.buffers.proofs.Stored.{begun-start, begun-turn, begun-end}
use Rattle.buffers.proofs.parts.put_parts.Goals as goal

pub returns-then-n-lt16 : goal.returns-then-n-lt16
returns-then-n-lt16 c =
    let text = c.args.text.now in
    let room = c.requires.1 in
    let eight = begun-turn _ _ text room _ 0 (begun-start _ _ text room) 0 8 c.requires.0 (omega arith) (omega arith) _ c.put8.ensures in
    let low : 8 ≤ length text = c.requires.0 in
    let high : length text - 8 ≤ 8 = omega (arith, c.if-n-lt16.true) in
    let whole = begun-turn _ _ text room _ 8 eight (length text - 8) 8 (omega arith) high (omega arith) _ c.put8-then-n-lt16.ensures in
    begun-end _ _ text room _ _ whole (omega arith)

pub loop-j-init : goal.loop-j-init
loop-j-init c = begun-start _ _ _ c.requires.1

pub loop-j-preserved : goal.loop-j-preserved
loop-j-preserved c =
    let text = c.args.text.now in
    let j = c.loop-j.j in
    let inside : 16 * j + 16 ≤ length text = omega arith in
    let next : 16 * j + 16 ≡ 16 * (j + 1) = omega arith in
    rw next at (begun-turn _ _ text c.requires.1 _ _ c.loop-j.invariant (16 * j) 16 inside (omega arith) (omega arith) _ c.put16.ensures)

pub returns : goal.returns
returns c =
    let text = c.args.text.now in
    let room = c.requires.1 in
    let low : 16 ≤ length text = c.if-n-lt16.false in
    let front : length text - 16 ≤ 16 * c.loop-j.j = omega arith in
    let high : 16 * c.loop-j.j ≤ length text - 16 + 16 = omega arith in
    let whole = begun-turn _ _ text room _ _ c.loop-j.invariant (length text - 16) 16 (omega arith) front high _ c.put16-2.ensures in
    begun-end _ _ text room _ _ whole (omega arith)
