use Prim.Native.Nat.{◌+◌, ◌*◌}
use mathlib.Core.Path.{◌≡◌, sym, ◌∙◌}
use native.Mathlib.Omega.{arith}
use Rattle.fields.proofs.Folding.{folded-length}
use Rattle.fields.proofs.Laws.{same_length}
use Rattle.fields.proofs.Everywhere.{everywhere-none}
use Rattle.fields.proofs.ByParts.{part-differs, part_same, last-decides}
use Rattle.fields.proofs.folded.same_folded.Goals as goal

pub returns-then-n-b : goal.returns-then-n-b
returns-then-n-b c = same_length _ _ (λ e. c.if-n-b.true (e ∙ folded-length c.args.b.now))

pub loop-j-init : goal.loop-j-init
loop-j-init c = (omega arith, everywhere-none _ _)

pub returns-then-not-same_part : goal.returns-then-not-same_part
returns-then-not-same_part c =
    let a = c.args in
    part-differs a.a.now a.b.now c.loop-j.invariant.0 16 (16 * c.loop-j.j) (omega arith)
    (sym c.same_part.ensures ∙ c.if-not-same_part.true)

pub loop-j-preserved : goal.loop-j-preserved
loop-j-preserved c =
    let a = c.args in
    let inv = c.loop-j.invariant in
    let more = sym c.same_part.ensures ∙ c.if-not-same_part.false in
    let next : 16 * (c.loop-j.j + 1) ≡ 16 * c.loop-j.j + 16 = omega arith in
    (inv.0, rw next (part_same a.a.now a.b.now inv.0 16 (16 * c.loop-j.j) inv.1 more))

pub returns : goal.returns
returns c =
    let a = c.args in
    let inv = c.loop-j.invariant in
    c.same_part-2.ensures ∙ last-decides a.a.now a.b.now inv.0 (16 * c.loop-j.j) 16 _ (omega arith) (omega arith) inv.1
