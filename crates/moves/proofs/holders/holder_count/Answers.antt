use Rattle.header.proofs.Inside.{header-inside}
use Rattle.moves.proofs.holders.holder_count.Goals as goal

pub users-count-requires : goal.users-count-requires
users-count-requires c = header-inside _ c.requires.fitted
