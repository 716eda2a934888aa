use lib.Bits.{and_le_r}
use native.Mathlib.Omega.{arith}
use Rattle.labels.proofs.hints.letters4.Goals as goal

pub returns : goal.returns
returns c = omega (arith, and_le_r c.number4.result 522133279)
