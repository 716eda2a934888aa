use native.Mathlib.Omega.{arith}
use Rattle.fields.specs.Bytes.{number8}
use Rattle.fields.proofs.numbers.number8.Goals as goal

pub returns : goal.returns
unfolding number8
returns c = omega arith
