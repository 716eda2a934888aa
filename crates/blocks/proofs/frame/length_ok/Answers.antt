use Rattle.std.proofs.Common.{refl}
use Rattle.blocks.specs.Blocks.{length_rule}
use Rattle.blocks.proofs.frame.length_ok.Goals as goal

pub returns : goal.returns
unfolding length_rule
returns c = refl
