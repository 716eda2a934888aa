-- `sets::word::with` meets its contract: below 64 no bit is shifted out.
-- Assumes nothing.
use mathlib.Core.Path.{ap}
use lib.Bits.{bit_or}
use Rattle.sets.proofs.Bounds.{one_shifted}
use Rattle.sets.proofs.word.with.Goals as goal

pub returns : goal.returns
returns c = ap (bit_or c.args.s) (one_shifted c.args.p 64 c.requires)
