use Prim.Native.Nat.{◌≤◌, ◌<◌}
use mathlib.Core.Path.{refl, sym, ◌∙◌}
use native.Mathlib.Omega.{arith}
use lib.ListN.{length}
use Rattle.fields.specs.Names.{folded_name}
use Rattle.fields.proofs.Folding.{folded-length, folded-at}
use Rattle.fields.proofs.Laws.{same_stop, same_step, same-done}
use Rattle.fields.proofs.folded.same_short.Goals as goal

pub loop-i-init : goal.loop-i-init
loop-i-init c = refl

pub returns-then-a-i : goal.returns-then-a-i
returns-then-a-i c =
    let a = c.args in
    let i = c.loop-i.i in
    let inv = c.loop-i.invariant in
    let in_b : i < length a.b.now = omega arith in
    let in-folded : i < length (folded_name a.b.now) = rw folded-length in_b in
    same_stop a.a.now (folded_name a.b.now) i c.loop-i-test.true in-folded inv
    (λ e. c.if-a-i.true (e ∙ folded-at a.b.now i in_b ∙ sym c.fold.ensures))

pub loop-i-preserved : goal.loop-i-preserved
loop-i-preserved c =
    let a = c.args in
    let i = c.loop-i.i in
    let inv = c.loop-i.invariant in
    let in_b : i < length a.b.now = omega arith in
    let in-folded : i < length (folded_name a.b.now) = rw folded-length in_b in
    same_step a.a.now (folded_name a.b.now) i c.loop-i-test.true in-folded inv
    (c.if-a-i.false ∙ c.fold.ensures ∙ sym (folded-at a.b.now i in_b))

pub returns : goal.returns
returns c =
    let i = c.loop-i.i in
    let inv = c.loop-i.invariant in
    let b = c.args.b.now in
    let past : length b ≤ i = omega arith in
    same-done _ (folded_name b) i c.loop-i-test.false (rw folded-length past) inv
