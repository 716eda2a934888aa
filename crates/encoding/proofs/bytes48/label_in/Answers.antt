use Rattle.encoding.specs.Labels.{label_in}
use Rattle.encoding.proofs.bytes48.label_in.Goals as goal

pub returns : goal.returns
unfolding label_in
returns c = rw (c.number8.ensures, c.group_set.ensures)
