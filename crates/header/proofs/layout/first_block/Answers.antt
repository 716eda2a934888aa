use native.Mathlib.Omega.{arith}
use Rattle.header.specs.Layout.{first_block}
use Rattle.header.proofs.layout.first_block.Goals as goal

pub returns-in-Component : goal.returns-in-Component
unfolding first_block
returns-in-Component c = (rw c.in-Component.is, omega arith)

pub returns-in-Label : goal.returns-in-Label
unfolding first_block
returns-in-Label c = (rw (c.in-Label.is, c.blocks-in-Label.ensures.0), omega arith)

pub returns-in-User : goal.returns-in-User
unfolding first_block
returns-in-User c = (rw (c.in-User.is, c.blocks-in-User.ensures.0, c.blocks-in-User-2.ensures.0), omega arith)
