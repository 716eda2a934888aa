use Rattle.std.proofs.Common.{rules}
use Rattle.blocks.specs.Columns.{even_of}
use Rattle.blocks.proofs.columns.even.Goals as goal

pub returns : goal.returns
unfolding even_of
returns c = search rules
