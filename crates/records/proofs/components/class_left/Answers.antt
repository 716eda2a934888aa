use Rattle.std.proofs.Common.{arith}
use Rattle.records.proofs.ComponentTests.{upto-level, upto-compartment, upto-group}
use Rattle.records.proofs.components.class_left.Goals as goal

pub returns-then-i-counts : goal.returns-then-i-counts
returns-then-i-counts c = upto-level _ _ _ (omega arith) (omega arith) _ c.min.ensures

pub returns-then-i-counts-2 : goal.returns-then-i-counts-2
returns-then-i-counts-2 c = upto-compartment _ _ _ (omega arith) (omega arith) (omega arith) _ c.min-then-i-counts-2.ensures

pub returns : goal.returns
returns c = upto-group _ _ _ (omega arith) (omega arith)
