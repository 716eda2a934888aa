use Rattle.image.proofs.Accepted.{accepted-counted}
use Rattle.access.specs.Verdicts.{known_tag, may_read}
use Rattle.access.proofs.verdicts.may_read.Goals as goal

pub reads_at-requires : goal.reads_at-requires
reads_at-requires c = accepted-counted _ c.requires

pub returns : goal.returns
unfolding may_read known_tag
returns c = rw (c.reads_at.ensures, c.label_of_tag.ensures)
