use native.Mathlib.Omega.{arith}
use Rattle.header.specs.Layout.{users}
use Rattle.header.proofs.layout.users.Goals as goal

pub returns : goal.returns
unfolding users
returns c = omega arith
