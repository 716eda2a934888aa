use Rattle.header.proofs.Inside.{header-inside}
use Rattle.header.proofs.layout.record_part.Goals as goal

pub shape_of-requires : goal.shape_of-requires
shape_of-requires c = header-inside _ c.requires.0
