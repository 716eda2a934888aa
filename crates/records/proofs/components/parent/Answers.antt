use Rattle.header.proofs.Inside.{header-inside}
use Rattle.records.proofs.components.parent.Goals as goal

pub edition_of-requires : goal.edition_of-requires
edition_of-requires c = header-inside _ c.requires.0
