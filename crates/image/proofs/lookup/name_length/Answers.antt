use Rattle.image.specs.Lookup.{name_length}
use Rattle.image.proofs.lookup.name_length.Goals as goal

pub returns : goal.returns
unfolding name_length
returns c = rw (c.name_length.ensures, c.component_index.ensures.0)
