use native.Mathlib.Omega.{arith}
use Rattle.header.specs.Layout.{components}
use Rattle.header.proofs.layout.components.Goals as goal

pub returns : goal.returns
unfolding components
returns c = omega arith
