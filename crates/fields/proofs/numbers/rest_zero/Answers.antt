use mathlib.Core.Path.{refl}
use borrow.Author.Tests.{eq-eqb, ne_eqb}
use Rattle.fields.proofs.Laws.{all-from-stop, all-from-step, all-from-done}
use Rattle.fields.proofs.numbers.rest_zero.Goals as goal

pub loop-i-init : goal.loop-i-init
loop-i-init c = refl

pub returns-then-s-i-ne0 : goal.returns-then-s-i-ne0
returns-then-s-i-ne0 c = all-from-stop _ _ _ _ c.loop-i-test.true c.loop-i.invariant (ne_eqb _ _ c.if-s-i-ne0.true)

pub loop-i-preserved : goal.loop-i-preserved
loop-i-preserved c = all-from-step _ _ _ _ c.loop-i-test.true c.loop-i.invariant (eq-eqb _ _ c.if-s-i-ne0.false)

pub returns : goal.returns
returns c = all-from-done _ _ _ _ c.loop-i-test.false c.loop-i.invariant
