use Rattle.refusals.proofs.Passed.{err-passed}
use Rattle.image.proofs.KindFaults.{kinds-in-turn}
use Rattle.image.proofs.inspect.contents_fault.Goals as goal

pub returns-in_err-kind_fault : goal.returns-in_err-kind_fault
returns-in_err-kind_fault c =
    rw (kinds-in-turn c.args.image.now, ← c.kind_fault.ensures, c.in_err-kind_fault.was) (err-passed _ c.from_residual.ensures.1)

pub returns-in_err-kind_fault-2 : goal.returns-in_err-kind_fault-2
returns-in_err-kind_fault-2 c =
    rw (kinds-in-turn c.args.image.now, ← c.kind_fault.ensures, c.in_ok-kind_fault.was, ← c.kind_fault-2.ensures, c.in_err-kind_fault-2.was)
    (err-passed _ c.from_residual-in_err-kind_fault-2.ensures.1)

pub returns : goal.returns
returns c =
    rw (kinds-in-turn c.args.image.now, ← c.kind_fault.ensures, c.in_ok-kind_fault.was, ← c.kind_fault-2.ensures, c.in_ok-kind_fault-2.was)
    c.kind_fault-3.ensures
