use mathlib.Core.Path.{sym, ◌∙◌}
use Rattle.access.specs.Verdicts.{read_compartments_rule, write_groups_rule, write_compartments_rule, tree_sets_rule}
use Rattle.access.proofs.verdicts.tree_sets.Goals as goal

pub returns-then-is_empty : goal.returns-then-is_empty
unfolding tree_sets_rule write_compartments_rule
returns-then-is_empty c = rw (sym c.is_empty.ensures ∙ c.if-is_empty.true) c.within.ensures

pub returns : goal.returns
unfolding tree_sets_rule write_groups_rule read_compartments_rule
returns c = rw (sym c.is_empty.ensures ∙ c.if-is_empty.false, c.meets.ensures, c.within-2.ensures)
