use mathlib.Core.Path.{refl}
use native.Mathlib.Omega.{arith}
use Rattle.header.specs.Layout.{compartments}
use Rattle.header.proofs.layout.compartments.Goals as goal

pub returns : goal.returns
unfolding compartments
returns c = (refl, omega (arith, c.type_inv.image 6))
