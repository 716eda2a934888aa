use lib.Bits.{and_le_r}
use Rattle.labels.specs.Hints.{letters_of8}
use Rattle.labels.proofs.hints.letters8.Goals as goal

pub returns : goal.returns
returns c = and_le_r c.number8.result letters_of8
