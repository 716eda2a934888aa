use native.Mathlib.Omega.{arith}
use borrow.Author.Tests.{eq-eqb, ne_eqb}
use Rattle.header.specs.Layout.{class_first}
use Rattle.header.proofs.layout.class_first.Goals as goal

pub returns-then-class-eq1 : goal.returns-then-class-eq1
unfolding class_first
returns-then-class-eq1 c = (rw (eq-eqb _ _ c.if-class-eq1.true), omega arith)

pub returns-then-class-eq2 : goal.returns-then-class-eq2
unfolding class_first
returns-then-class-eq2 c = (rw (ne_eqb _ _ c.if-class-eq1.false, eq-eqb _ _ c.if-class-eq2.true) c.levels.ensures.0, omega arith)

pub returns : goal.returns
unfolding class_first
returns c = (
  rw (ne_eqb _ _ c.if-class-eq1.false, ne_eqb _ _ c.if-class-eq2.false, c.levels-2.ensures.0, c.compartments.ensures.0),
  omega arith,
)
