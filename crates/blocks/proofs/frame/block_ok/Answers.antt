use Rattle.std.proofs.Common.{◌&&◌, ap₂}
use Rattle.fields.proofs.Laws.{part-taken}
use Rattle.blocks.specs.Blocks.{block_rule, block_at}
use Rattle.blocks.proofs.frame.block_ok.Goals as goal

pub returns : goal.returns
unfolding block_rule block_at
returns c = simp part-taken at (ap₂ ◌&&◌ c.check_ok.ensures c.place_ok.ensures)
