use Rattle.writing.proofs.block.put_head.Goals as goal

pub returns : goal.returns
returns c =
    rw (c.low.ensures, c.high.ensures) at c.put.ensures
