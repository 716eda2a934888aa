use Rattle.access.proofs.verdicts.unknown_read.Goals as goal

pub returns : goal.returns
returns c = rw (← c.reads_all.ensures) c.is_unknown_seen.ensures
