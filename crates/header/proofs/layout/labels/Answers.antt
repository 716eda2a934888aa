use native.Mathlib.Omega.{arith}
use Rattle.header.specs.Layout.{labels}
use Rattle.header.proofs.layout.labels.Goals as goal

pub returns : goal.returns
unfolding labels
returns c = omega arith
