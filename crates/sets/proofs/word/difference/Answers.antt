-- `sets::word::difference` meets its contract: the code is the definition, and an intersection is at most its first set.
-- Assumes nothing.
use mathlib.Core.Path.{refl}
use lib.Bits.{and_le_l}
use Rattle.sets.specs.Sets.{difference}
use Rattle.sets.proofs.word.difference.Goals as goal

pub overflow_sub-result : goal.overflow_sub-result
overflow_sub-result c = and_le_l c.args.a c.args.b

pub returns : goal.returns
unfolding difference
returns c = refl
