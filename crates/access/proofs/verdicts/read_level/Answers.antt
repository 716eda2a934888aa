use mathlib.Core.Path.{refl}
use Rattle.access.specs.Verdicts.{read_level_rule}
use Rattle.access.proofs.verdicts.read_level.Goals as goal

pub returns : goal.returns
unfolding read_level_rule
returns c = refl
