use Rattle.header.proofs.Inside.{header-inside}
use Rattle.records.proofs.existing.existing_in.Goals as goal

pub counts_of-requires : goal.counts_of-requires
counts_of-requires c = header-inside _ c.requires.fitted
