use mathlib.Core.Path.{refl}
use native.Mathlib.Omega.{arith}
use Rattle.header.specs.Layout.{levels}
use Rattle.header.proofs.layout.levels.Goals as goal

pub returns : goal.returns
unfolding levels
returns c = (refl, omega (arith, c.type_inv.image 5))
