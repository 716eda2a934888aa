use Prim.Native.Nat.{◌+◌, ◌*◌}
use mathlib.Core.Path.{◌≡◌, sym, ◌∙◌}
use native.Mathlib.Omega.{arith}
use Rattle.fields.proofs.Words.{Bytes, upto_next, upto-end, word-differs}
use Rattle.fields.proofs.same.same_words.Goals as goal

pub returns-then-number8 : goal.returns-then-number8
returns-then-number8 c =
    word-differs _ _ _ (λ e. c.if-number8.true (c.number8.ensures ∙ e ∙ sym c.number8-2.ensures))

pub loop-j-init : goal.loop-j-init
loop-j-init c =
    record {
      ends = omega arith;
      long = c.requires.0;
      passed = λ j h. absurd (omega arith);
      end = sym c.number8.ensures ∙ c.if-number8.false ∙ c.number8-2.ensures;
    }

pub returns-then-number8-2 : goal.returns-then-number8-2
returns-then-number8-2 c =
    word-differs _ _ _ (λ e. c.if-number8-2.true (c.number8-in-loop-j.ensures ∙ e ∙ sym c.number8-in-loop-j-2.ensures))

pub loop-j-preserved : goal.loop-j-preserved
loop-j-preserved c =
    let first_small : Bytes c.args.a.now = λ k. omega (arith, c.type_inv.a k) in
    let second-small : Bytes c.args.b.now = λ k. omega (arith, c.type_inv.b k) in
    let same = sym c.number8-in-loop-j.ensures ∙ c.if-number8-2.false ∙ c.number8-in-loop-j-2.ensures in
    let next : 8 * (c.loop-j.j + 1) ≡ 8 * c.loop-j.j + 8 = omega arith in
    rw next (upto_next _ _ first_small second-small _ _ c.loop-j.invariant same)

pub returns : goal.returns
returns c =
    let first_small : Bytes c.args.a.now = λ k. omega (arith, c.type_inv.a k) in
    let second-small : Bytes c.args.b.now = λ k. omega (arith, c.type_inv.b k) in
    upto-end _ _ first_small second-small _ _ c.loop-j.invariant (omega arith)
