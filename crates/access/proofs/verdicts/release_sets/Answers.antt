use Rattle.access.specs.Verdicts.{read_compartments_rule, write_compartments_rule, release_sets_rule}
use Rattle.access.proofs.verdicts.release_sets.Goals as goal

pub returns : goal.returns
unfolding release_sets_rule read_compartments_rule write_compartments_rule
returns c = rw (c.read_groups.ensures, c.within.ensures, c.within-2.ensures)
