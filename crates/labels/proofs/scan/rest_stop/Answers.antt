use mathlib.Core.Path.{sym, ◌∙◌}
use native.Mathlib.Omega.{arith}
use Rattle.fields.proofs.Scan.{loop-bad, loop-good, loop-end}
use Rattle.labels.proofs.scan.rest_stop.Goals as goal

pub returns-then-not-passes_alone : goal.returns-then-not-passes_alone
returns-then-not-passes_alone g c =
    loop-bad _ _ _ _ c.loop-i-test.true c.loop-i.invariant (sym c.passes_alone.ensures ∙ c.if-not-passes_alone.true)

pub loop-i-preserved : goal.loop-i-preserved
loop-i-preserved g c =
    loop-good _ _ _ _ c.loop-i-test.true c.loop-i.invariant (sym c.passes_alone.ensures ∙ c.if-not-passes_alone.false)

pub returns : goal.returns
returns g c = omega (arith, c.loop-i.auto.i-end c.requires, loop-end _ _ _ _ c.loop-i-test.false c.loop-i.invariant)
