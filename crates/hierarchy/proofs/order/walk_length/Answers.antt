use Prim.Native.Nat.{◌+◌}
use mathlib.Core.Path.{◌≡◌}
use native.Mathlib.Omega.{arith}
use Rattle.hierarchy.proofs.Steps.{passing-start, passing-next, passing-stop, passing-on}
use Rattle.hierarchy.proofs.order.walk_length.Goals as goal

pub loop-n-init : goal.loop-n-init
loop-n-init c = passing-start _ _ _ _

pub returns-then-at-count : goal.returns-then-at-count
returns-then-at-count c =
    passing-stop _ _ _ _ _ _ c.loop-n.invariant (λ group. absurd (omega arith))

pub returns-then-places-at-ne0 : goal.returns-then-places-at-ne0
returns-then-places-at-ne0 c =
    passing-stop _ _ _ _ _ _ c.loop-n.invariant (λ group. omega arith)

pub loop-n-preserved : goal.loop-n-preserved
loop-n-preserved c =
    passing-next _ _ _ _ _ _ c.loop-n.invariant (omega arith) c.if-at-count.false c.if-places-at-ne0.false _ c.number2-at.ensures.0

pub returns : goal.returns
returns c =
    let done : c.loop-n.n ≡ c.args.count + 1 = omega arith in
    rw (← done) (passing-on _ _ _ _ _ _ c.loop-n.invariant (omega arith))
