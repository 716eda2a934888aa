use mathlib.Core.Path.{sym, ◌∙◌}
use native.Mathlib.Nat.{add-sub_cancel_left}
use native.Mathlib.Omega.{arith}
use Rattle.fields.proofs.Scan.{loop-bad, loop-good}
use Rattle.labels.proofs.PartEnds.{still-inside}
use Rattle.labels.proofs.scan.stop_in_part.Goals as goal

pub loop-test-init : goal.loop-test-init
loop-test-init g c = (omega arith, rw add-sub_cancel_left)

pub loop-test-preserved : goal.loop-test-preserved
loop-test-preserved g c =
    let l = c.loop-test in
    let next = loop-good _ _ _ _ l.invariant.0 l.invariant.1 (sym c.passes_alone.ensures ∙ c.loop-test-test.true) in
    (still-inside _ _ _ c.requires.1 _ next, next)

pub returns : goal.returns
returns g c =
    let l = c.loop-test in
    loop-bad _ _ _ _ l.invariant.0 l.invariant.1 (sym c.passes_alone.ensures ∙ c.loop-test-test.false)
