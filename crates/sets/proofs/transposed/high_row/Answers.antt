use mathlib.Core.Path.{ap}
use lib.Bits.{bit_xor}
use Rattle.sets.specs.Transposed.{high_row}
use Rattle.sets.proofs.transposed.high_row.Goals as goal

pub returns : goal.returns
unfolding high_row
returns c = ap (bit_xor c.args.b) c.mixed.ensures
