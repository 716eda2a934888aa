use Prim.Native.Nat.{◌+◌, ◌≤◌, ◌<◌}
use mathlib.Core.Path.{sym, ◌∙◌}
use native.Mathlib.Nat.{zero-add, sub-zero, le_refl}
use native.Mathlib.Omega.{arith}
use lib.ListN.{length}
use Rattle.buffers.proofs.Left.{left-start, left-turn, left_end, byte-alone}
use Rattle.maps.specs.Words.{bytes_of}
use Rattle.maps.proofs.ByParts.{pasted-whole}
use Rattle.maps.proofs.InWords.{bytes-long, bytes-turn, bytes-end}
use Rattle.maps.proofs.making.put_each.Goals as goal

pub loop-i-init : goal.loop-i-init
loop-i-init c = (omega arith, left-start _ _ _ _ (rw sub-zero))

pub loop-i-preserved : goal.loop-i-preserved
loop-i-preserved c =
    let l = c.loop-i in
    let a = c.args in
    let here : l.i < length l.to = omega (arith, l.invariant.1.long, c.requires, c.loop-i-test.true) in
    let room : 0 + length (bytes_of a.n a.w) ≤ length a.to.now = rw (zero-add, bytes-long, c.requires) (le_refl a.n) in (
      omega (arith, c.loop-i-test.true),
      left-turn _ _ _ _ _ _ l.invariant.1 _ _ (bytes-turn a.n l.i l.rest c.loop-i-test.true) _ _ room (byte-alone _ _ _ here),
    )

pub shape_of-to : goal.shape_of-to
shape_of-to c = c.loop-i.invariant.1.long

pub returns : goal.returns
returns c =
    let l = c.loop-i in
    let a = c.args in
    (left_end _ _ _ _ _ _ l.invariant.1 (bytes-end a.n l.i l.rest c.loop-i-test.false)).bytes
    ∙ pasted-whole a.to.now (bytes_of a.n a.w) (bytes-long a.n a.w ∙ sym c.requires)
