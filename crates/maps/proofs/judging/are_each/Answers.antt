use native.Mathlib.Nat.{sub-zero}
use native.Mathlib.Omega.{arith}
use Rattle.maps.proofs.InWords.{each-stop, each_step, each-end}
use Rattle.maps.proofs.judging.are_each.Goals as goal

pub loop-i-init : goal.loop-i-init
loop-i-init c = (omega arith, rw sub-zero)

pub returns-then-bits-i : goal.returns-then-bits-i
returns-then-bits-i c =
    let l = c.loop-i in
    each-stop _ _ _ l.i l.rest c.requires l.invariant.1 c.loop-i-test.true c.if-bits-i.true

pub loop-i-preserved : goal.loop-i-preserved
loop-i-preserved c =
    let l = c.loop-i in (
      omega (arith, c.loop-i-test.true),
      each_step _ _ _ l.i l.rest c.requires l.invariant.1 c.loop-i-test.true c.if-bits-i.false,
    )

pub returns : goal.returns
returns c =
    let l = c.loop-i in
    each-end _ _ _ l.i l.rest c.requires l.invariant.1 c.loop-i-test.false
