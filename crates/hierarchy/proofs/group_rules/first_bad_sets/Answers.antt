use Rattle.hierarchy.proofs.group_rules.first_bad_sets.Goals as goal

pub returns-in-Tree : goal.returns-in-Tree
returns-in-Tree c = rw c.in-Tree.is c.first_bad_in_tree.ensures
