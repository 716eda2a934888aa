use Rattle.image.specs.Lookup.{name_offset}
use Rattle.image.proofs.lookup.name_offset.Goals as goal

pub returns : goal.returns
unfolding name_offset
returns c = rw (c.component_name_offset.ensures, c.component_index.ensures.0)
