use Rattle.hierarchy.specs.UserRows.{plain_sets}
use Rattle.hierarchy.proofs.tree_rules.plain.Goals as goal

pub returns : goal.returns
unfolding plain_sets
returns c =
    rw (← c.union.ensures, ← c.intersection.ensures, ← c.within.ensures, ← c.within-2.ensures, ← c.within-3.ensures)
