use Rattle.access.specs.Verdicts.{write_sets_rule}
use Rattle.access.proofs.verdicts.write_sets.Goals as goal

pub returns-in-Tree : goal.returns-in-Tree
unfolding write_sets_rule
returns-in-Tree c = rw (c.tree_sets.ensures, c.in-Tree.is)

pub returns-in-Release : goal.returns-in-Release
unfolding write_sets_rule
returns-in-Release c = rw (c.release_sets.ensures, c.in-Release.is)
