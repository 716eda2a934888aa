use Rattle.header.proofs.Inside.{header-inside}
use Rattle.records.proofs.labels.tag.Goals as goal

pub shape_of-requires : goal.shape_of-requires
shape_of-requires c = header-inside _ c.requires.0.fitted
