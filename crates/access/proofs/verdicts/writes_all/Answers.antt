use Rattle.access.specs.Verdicts.{writes_all}
use Rattle.access.proofs.verdicts.writes_all.Goals as goal

pub returns : goal.returns
unfolding writes_all
returns c = rw c.has.ensures
