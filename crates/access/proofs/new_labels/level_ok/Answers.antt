use Rattle.access.proofs.new_labels.level_ok.Goals as goal

pub returns : goal.returns
returns c = rw (c.is_between.ensures, c.levels_in-levels.ensures)
