use Rattle.access.specs.Verdicts.{holds_compaccess}
use Rattle.access.proofs.verdicts.holds_compaccess.Goals as goal

pub returns : goal.returns
unfolding holds_compaccess
returns c = rw c.has.ensures
