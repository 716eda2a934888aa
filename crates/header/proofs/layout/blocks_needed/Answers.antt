use native.Mathlib.Omega.{arith}
use Rattle.header.specs.Layout.{first_block, blocks_needed}
use Rattle.header.proofs.layout.blocks_needed.Goals as goal

pub returns : goal.returns
unfolding first_block blocks_needed
returns c = (omega arith, omega arith)
