use Rattle.header.proofs.Inside.{header-inside}
use Rattle.image.proofs.Accepted.{accepted-counted, accepted-ends}
use Rattle.dominance.proofs.comparing.groups_reached.Goals as goal

pub fill-requires : goal.fill-requires
fill-requires c = let acc = c.requires in (accepted-counted _ acc, accepted-ends _ acc)

pub reach-reached-requires : goal.reach-reached-requires
reach-reached-requires c =
    let acc = c.requires in
    (accepted-counted _ acc, c.fill.ensures)

pub profile_of-requires : goal.profile_of-requires
profile_of-requires c = header-inside _ (accepted-counted _ c.requires).fitted
