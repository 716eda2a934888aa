use Rattle.blocks.specs.Blocks.{place_rule}
use Rattle.blocks.proofs.frame.place_ok.Goals as goal

pub returns : goal.returns
unfolding place_rule
returns c = rw c.number2.ensures.0
