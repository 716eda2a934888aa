use Rattle.header.proofs.Inside.{header-inside}
use Rattle.hierarchy.proofs.OfImage.{ring-found}
use Rattle.hierarchy.proofs.table.first_ring.Goals as goal

pub groups-requires : goal.groups-requires
groups-requires c = header-inside _ c.requires.fitted

pub returns : goal.returns
returns c =
    ring-found _ c.fill_parents.new.table _ _ _ c.groups.ensures.0 c.requires c.fill_parents.ensures c.put_order.ensures
