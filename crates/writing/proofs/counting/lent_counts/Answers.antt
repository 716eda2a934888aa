use Rattle.writing.proofs.counting.lent_counts.Goals as goal

pub returns : goal.returns
returns c = rw (c.class_total.ensures, c.class_total-2.ensures, c.class_total-3.ensures)
