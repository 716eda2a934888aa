use Prim.Native.Nat.{◌/◌}
use native.Mathlib.Omega.{arith}
use Rattle.maps.specs.Map.{bit_of}
use Rattle.maps.proofs.given.bit_of.Goals as goal

pub overflow_cast-bits : goal.overflow_cast-bits
overflow_cast-bits c = omega (arith, c.type_inv.bits (c.args.p / 8))

pub returns : goal.returns
unfolding bit_of
returns c = c.has.ensures
