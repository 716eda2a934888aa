use Rattle.access.specs.Verdicts.{write_level_rule, write_compartments_rule, compaccess_writes, write_tests}
use Rattle.access.proofs.verdicts.write_tests.Goals as goal

pub returns : goal.returns
unfolding write_tests compaccess_writes write_level_rule write_compartments_rule
returns c = rw (c.is_empty.ensures, c.is_between-level.ensures, c.within-written.ensures, c.write_sets-sets.ensures, c.holds_compaccess-compaccess.ensures)
