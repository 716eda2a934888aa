use native.Mathlib.Omega.{arith}
use Rattle.header.proofs.Inside.{offset-straight}
use Rattle.header.proofs.layout.record_offset.Goals as goal

pub overflow_mul-result : goal.overflow_mul-result
overflow_mul-result c =
    omega (arith, offset-straight c.args.shape c.requires.0 c.args.i)

pub overflow_add-result : goal.overflow_add-result
overflow_add-result c =
    omega (arith, offset-straight c.args.shape c.requires.0 c.args.i)

pub overflow_mul-result-2 : goal.overflow_mul-result-2
overflow_mul-result-2 c =
    omega (arith, offset-straight c.args.shape c.requires.0 c.args.i)

pub overflow_add-result-2 : goal.overflow_add-result-2
overflow_add-result-2 c =
    omega (arith, offset-straight c.args.shape c.requires.0 c.args.i)

pub overflow_mul-result-3 : goal.overflow_mul-result-3
overflow_mul-result-3 c =
    rw c.quotient.ensures (omega (arith, offset-straight c.args.shape c.requires.0 c.args.i))

pub overflow_add-result-3 : goal.overflow_add-result-3
overflow_add-result-3 c =
    rw c.quotient.ensures (omega (arith, offset-straight c.args.shape c.requires.0 c.args.i))

pub returns : goal.returns
returns c =
    rw c.quotient.ensures (offset-straight c.args.shape c.requires.0 c.args.i)
