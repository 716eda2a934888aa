use Rattle.access.proofs.new_labels.compartments_ok.Goals as goal

pub returns : goal.returns
returns c = rw (c.within.ensures, c.compartments_in.ensures)
