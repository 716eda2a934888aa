use native.Mathlib.Omega.{arith}
use Rattle.lines.proofs.Digits.{decimal-is}
use Rattle.lines.proofs.numbers.put_number.Goals as goal

pub put-requires : goal.put-requires
put-requires c =
    rw (decimal-is _ _ _ c.ranges.n.fits c.decimal-count.ensures.len c.decimal-count.ensures.digits)
    (omega (arith, c.requires))

pub returns : goal.returns
returns c =
    rw (decimal-is _ _ _ c.ranges.n.fits c.decimal-count.ensures.len c.decimal-count.ensures.digits)
    at c.put.ensures
