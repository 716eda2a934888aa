use Prim.Native.Nat.{◌+◌, ◌*◌, ◌/◌, ◌≤◌}
use mathlib.Core.Path.{◌≡◌, refl, sym, ◌∙◌}
use native.Mathlib.Omega.{arith}
use lib.ListN.{length}
use Rattle.fields.specs.Bytes.{number8}
use Rattle.fields.proofs.Words.{word-zero, word-bad}
use Rattle.fields.proofs.numbers.all_zero.Goals as goal

pub loop-j-init : goal.loop-j-init
loop-j-init c = refl

pub returns-then-number8-ne0 : goal.returns-then-number8-ne0
returns-then-number8-ne0 c =
    let bad : number8 c.args.s.now (8 * c.loop-j.j) ≡ 0 → ⊥ = λ e. c.if-number8-ne0.true (c.number8.ensures ∙ e) in
    sym (sym c.loop-j.invariant ∙ word-bad _ _ bad)

pub loop-j-preserved : goal.loop-j-preserved
loop-j-preserved c =
    let s = c.args.s.now in
    let i = 8 * c.loop-j.j in
    let room : i + 8 ≤ length s = omega arith in
    let next : 8 * (c.loop-j.j + 1) ≡ i + 8 = omega arith in
    rw next (sym (word-zero s i room (sym c.number8.ensures ∙ c.if-number8-ne0.false)) ∙ c.loop-j.invariant)

pub returns : goal.returns
returns c =
    let all : length c.args.s.now / 8 ≡ c.loop-j.j = omega arith in
    c.rest_zero.ensures ∙ rw all c.loop-j.invariant
