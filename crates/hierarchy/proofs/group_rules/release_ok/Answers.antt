use Rattle.hierarchy.specs.Below.{release_sets}
use Rattle.hierarchy.proofs.group_rules.release_ok.Goals as goal

pub returns : goal.returns
unfolding release_sets
returns c = rw (c.within.ensures, c.within-2.ensures, c.same.ensures)
