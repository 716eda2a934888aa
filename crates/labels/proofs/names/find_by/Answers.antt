use Rattle.image.proofs.Accepted.{accepted-counted}
use Rattle.labels.proofs.Unique.{told_at}
use Rattle.labels.proofs.names.find_by.Goals as goal

pub hinted-requires : goal.hinted-requires
hinted-requires c = accepted-counted _ c.requires.0

pub find-requires : goal.find-requires
find-requires c = (accepted-counted _ c.requires.0, c.requires.1)

pub returns : goal.returns
returns c =
    told_at _ c.requires.0 _ c.requires.1.0 c.requires.1.1 _ _ _ c.in-Some.is c.hinted.ensures
