-- `sets::word::within` meets its contract: the code is the definition.
-- Assumes nothing.
use mathlib.Core.Path.{refl}
use Rattle.sets.specs.Sets.{within}
use Rattle.sets.proofs.word.within.Goals as goal

pub returns : goal.returns
unfolding within
returns c = refl
