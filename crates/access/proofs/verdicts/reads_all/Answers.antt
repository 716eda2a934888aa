use Rattle.access.specs.Verdicts.{reads_all}
use Rattle.access.proofs.verdicts.reads_all.Goals as goal

pub returns : goal.returns
unfolding reads_all
returns c = rw (c.has.ensures, c.has-2.ensures)
