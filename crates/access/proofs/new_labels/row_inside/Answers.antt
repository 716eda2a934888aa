use Rattle.access.specs.NewLabels.{row_inside}
use Rattle.access.proofs.new_labels.row_inside.Goals as goal

pub returns : goal.returns
unfolding row_inside
returns c = rw (c.within.ensures, c.row_groups_ok.ensures)
