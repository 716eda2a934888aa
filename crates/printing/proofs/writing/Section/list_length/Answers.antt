use Prim.Native.Nat.{zero-le}
use native.Mathlib.Nat.{zero-add, sub-zero}
use native.Mathlib.Omega.{arith}
use Rattle.printing.proofs.Listed.{counted_step, counted-end}
use Rattle.printing.proofs.writing.Section.list_length.Goals as goal

pub loop-k-init : goal.loop-k-init
loop-k-init c = (zero-le, rw (zero-add, sub-zero))

pub overflow_add-n : goal.overflow_add-n
overflow_add-n c = omega (arith, c.args.self.now.named.few)

pub loop-k-preserved : goal.loop-k-preserved
loop-k-preserved c = (
  omega arith,
  counted_step _ _ _ _ _ _ _ _ c.loop-k-test.true c.loop-k.invariant.1 c.entry_length-n.ensures.0,
)

pub returns : goal.returns
returns c = (counted-end _ _ _ _ _ _ _ (omega arith) c.loop-k.invariant.1, omega arith)
