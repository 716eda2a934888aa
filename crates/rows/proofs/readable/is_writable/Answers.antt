use Rattle.rows.proofs.readable.is_writable.Goals as goal

pub returns : goal.returns
returns c = rw (c.may_write.ensures, c.number4.ensures)
