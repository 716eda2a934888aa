use mathlib.Core.Path.{refl}
use native.Mathlib.Omega.{arith}
use Rattle.fields.proofs.Laws.{same_stop, same_step, same-done}
use Rattle.fields.proofs.same.same_bytes.Goals as goal

pub loop-i-init : goal.loop-i-init
loop-i-init c = refl

pub returns-then-a-i : goal.returns-then-a-i
returns-then-a-i c = same_stop _ _ _ (omega arith) (omega arith) c.loop-i.invariant c.if-a-i.true

pub loop-i-preserved : goal.loop-i-preserved
loop-i-preserved c = same_step _ _ _ (omega arith) (omega arith) c.loop-i.invariant c.if-a-i.false

pub returns : goal.returns
returns c =
    let i = c.loop-i.i in
    same-done _ _ i (omega arith) (omega arith) c.loop-i.invariant
