use Rattle.refusals.proofs.Passed.{err-passed}
use Rattle.image.proofs.Tables.{tells-fault, counted-parts}
use Rattle.image.proofs.inspect.counted_fault.Goals as goal

-- a fault of the blocks
pub returns-in_err-contents_fault : goal.returns-in_err-contents_fault
returns-in_err-contents_fault c =
    rw (err-passed _ c.from_residual.ensures.1)
    (tells-fault (rw (counted-parts c.args.image.now, ← c.contents_fault.ensures, c.in_err-contents_fault.was)))

-- none of the blocks, so that the groups' is the first
pub returns : goal.returns
returns c =
    rw (counted-parts c.args.image.now, ← c.contents_fault.ensures, c.in_ok-contents_fault.was) c.group_fault.ensures
