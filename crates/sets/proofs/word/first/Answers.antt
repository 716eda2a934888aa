-- `sets::word::first` meets its contract: the zeros below the lowest bit that is set are as many as its place.
-- Assumes nothing.
use native.Mathlib.Omega.{arith}
use lib.Count.{trailing_le}
use Rattle.sets.proofs.Lowest.{trailing-lowest}
use Rattle.sets.proofs.word.first.Goals as goal

pub overflow_cast-result : goal.overflow_cast-result
overflow_cast-result c = omega (arith, trailing_le 64 c.args.s)

pub returns : goal.returns
returns c = trailing-lowest 64 c.args.s
