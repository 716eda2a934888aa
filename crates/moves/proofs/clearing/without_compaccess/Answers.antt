use native.Mathlib.Omega.{arith}
use Rattle.sets.specs.Sets.{difference}
use Rattle.moves.specs.Moved.{without_compaccess}
use Rattle.moves.proofs.clearing.without_compaccess.Goals as goal

pub overflow_cast-result : goal.overflow_cast-result
unfolding difference
overflow_cast-result c = record { fits = omega (arith, c.without.ensures) }

pub returns : goal.returns
unfolding without_compaccess
returns c = c.without.ensures
