use Rattle.header.proofs.Inside.{header-inside}
use Rattle.image.proofs.Accepted.{accepted-counted}
use Rattle.printing.proofs.Whole.{named-groups}
use Rattle.printing.proofs.writing.Section.groups.Goals as goal

pub groups-requires : goal.groups-requires
groups-requires c = header-inside _ (accepted-counted _ c.requires).fitted

pub invariant_of-result : goal.invariant_of-result
invariant_of-result c = record { named = rw c.groups.ensures.0 (named-groups _ c.requires) }

pub returns : goal.returns
returns c = rw c.groups.ensures.0
