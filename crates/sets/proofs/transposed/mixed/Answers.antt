use mathlib.Core.Path.{refl}
use Rattle.sets.specs.Transposed.{mixed}
use Rattle.sets.proofs.transposed.mixed.Goals as goal

pub returns : goal.returns
unfolding mixed
returns c = refl
