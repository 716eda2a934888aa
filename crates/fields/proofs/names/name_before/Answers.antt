use mathlib.Core.Path.{◌≡◌, refl, ◌∙◌}
use native.Mathlib.Omega.{arith}
use Rattle.fields.proofs.Laws.{before-stop, before-step, before-done}
use Rattle.fields.proofs.names.name_before.Goals as goal

pub loop-i-init : goal.loop-i-init
loop-i-init c = refl

pub returns-then-a-i : goal.returns-then-a-i
returns-then-a-i c =
    let l = c.loop-i in
    before-stop _ _ l.i (omega arith) (omega arith) l.invariant c.if-a-i.true

pub loop-i-preserved : goal.loop-i-preserved
loop-i-preserved c =
    let l = c.loop-i in
    before-step _ _ l.i (omega arith) (omega arith) l.invariant c.if-a-i.false

pub returns : goal.returns
returns c =
    let l = c.loop-i in
    let e : l.i ≡ c.min-m.result = omega arith in
    rw (← e) (before-done _ _ l.i (e ∙ c.min-m.ensures) l.invariant)
