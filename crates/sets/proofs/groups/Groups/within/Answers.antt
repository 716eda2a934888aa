-- `sets::groups::Groups::within` meets its contract: the places in both are those of the set. Assumes nothing.
use Rattle.sets.specs.Sets.{within}
use Rattle.sets.proofs.groups.Groups.within.Goals as goal

pub returns : goal.returns
unfolding within
returns c = rw c.intersection.ensures at c.same.ensures
