use Rattle.blocks.specs.Blocks.{check_rule}
use Rattle.blocks.proofs.frame.check_ok.Goals as goal

pub returns : goal.returns
unfolding check_rule
returns c =
    rw (c.from.ensures, c.from-2.ensures, c.sums-found.ensures)
