use Rattle.labels.specs.Parse.{matches}
use Rattle.labels.proofs.names.is_named.Goals as goal

pub returns : goal.returns
unfolding matches
returns c = rw (← c.component_name.ensures) c.same_folded.ensures
