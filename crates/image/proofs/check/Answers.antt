use Rattle.image.proofs.check.Goals as goal

pub returns : goal.returns
returns c = c.check_table.ensures.told
