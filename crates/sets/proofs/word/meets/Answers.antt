-- `sets::word::meets` meets its contract: the code is the definition.
-- Assumes nothing.
use mathlib.Core.Path.{refl}
use Rattle.sets.specs.Sets.{meets}
use Rattle.sets.proofs.word.meets.Goals as goal

pub returns : goal.returns
unfolding meets
returns c = refl
