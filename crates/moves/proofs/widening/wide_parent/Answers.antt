use native.Mathlib.Omega.{arith}
use borrow.Author.Tests.{eq-eqb, ne_eqb}
use Rattle.moves.proofs.widening.wide_parent.Goals as goal

pub returns-then-parent-eq255 : goal.returns-then-parent-eq255
returns-then-parent-eq255 c = (rw (eq-eqb _ _ c.if-parent-eq255.true), omega arith)

pub returns-else-parent-eq255 : goal.returns-else-parent-eq255
returns-else-parent-eq255 c = (rw (ne_eqb _ _ c.if-parent-eq255.false), omega arith)
