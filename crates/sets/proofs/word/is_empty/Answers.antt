-- `sets::word::is_empty` meets its contract: the code is the definition.
-- Assumes nothing.
use mathlib.Core.Path.{refl}
use Rattle.sets.specs.Sets.{empty}
use Rattle.sets.proofs.word.is_empty.Goals as goal

pub returns : goal.returns
unfolding empty
returns c = refl
