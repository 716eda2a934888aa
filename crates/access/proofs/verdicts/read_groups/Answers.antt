use Rattle.access.specs.Verdicts.{read_groups_rule}
use Rattle.access.proofs.verdicts.read_groups.Goals as goal

pub returns : goal.returns
unfolding read_groups_rule
returns c = c.passes.ensures
