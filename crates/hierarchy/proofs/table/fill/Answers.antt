use Rattle.hierarchy.proofs.OfImage.{all-filled}
use Rattle.hierarchy.proofs.table.fill.Goals as goal

pub returns : goal.returns
returns c = all-filled _ _ _ c.requires.1 c.first_ring.ensures
