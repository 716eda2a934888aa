use Prim.Native.Nat.{◌^◌, ◌<◌}
use mathlib.Core.Path.{◌≡◌, ◌∙◌}
use lib.ListN.{length}
use Rattle.fields.specs.Bytes.{AreBytes}
use Rattle.maps.proofs.InWords.{word-compared}
use Rattle.maps.proofs.judging.are_bytes.Goals as goal

pub returns-then-n-eq8 : goal.returns-then-n-eq8
returns-then-n-eq8 c =
    let a = c.args in
    let word : a.w < 2 ^ 64 = c.ranges.w.fits in
    let long : length a.bits.now ≡ 8 = c.requires ∙ c.if-n-eq8.true in
    let small : AreBytes a.bits.now = λ k. (c.type_inv.bits k).fits in
    rw (c.number8.ensures, c.if-n-eq8.true) (word-compared a.w word a.bits.now long small)
