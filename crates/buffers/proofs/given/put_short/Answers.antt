use Prim.Native.Nat.{◌+◌, ◌<◌}
use mathlib.Core.Path.{◌≡◌, refl}
use mathlib.Core.List.{◌∷◌}
use native.Mathlib.Nat.{add-zero, add_assoc}
use native.Mathlib.Numerals.{add-one}
use native.Mathlib.Omega.{arith}
use lib.ListN.{length, get_or, drop, drop_of_length-le}
use lib.Seq.{drop-cons}
use Rattle.buffers.proofs.Left.{left-start, left-turn, left_end, byte-alone}
use Rattle.buffers.proofs.given.put_short.Goals as goal

pub loop-i-init : goal.loop-i-init
loop-i-init c = (omega arith, rw (add-zero c.args.at) (left-start _ _ _ _ refl))

pub loop-i-preserved : goal.loop-i-preserved
loop-i-preserved c =
    let l = c.loop-i in
    let text = c.args.text.now in
    let more : l.i < length text = c.loop-i-test.true in
    let here : c.args.at + l.i < length l.buffer = omega arith in
    let next : drop l.i text ≡ get_or text l.i 0 ∷ drop (l.i + 1) text = rw (add-one, drop-cons text l.i 0) in
    let byte = byte-alone l.buffer (c.args.at + l.i) (get_or text l.i 0) here in
    (omega arith, rw (← add_assoc c.args.at l.i 1) (left-turn _ _ _ _ _ _ l.invariant.1 _ _ next _ _ c.requires byte))

pub returns : goal.returns
returns c =
    let all : c.loop-i.i ≡ length c.args.text.now = omega arith in
    rw all at (left_end _ _ _ _ _ _ c.loop-i.invariant.1 (drop_of_length-le c.args.text.now c.loop-i-test.false))
