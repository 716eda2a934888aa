use Rattle.std.proofs.Common.{◌≡◌, ◌+◌, ◌-◌, ◌*◌, ◌<◌, get_or, refl, sym, ◌∙◌, ap₂, arith, rules}
use Rattle.blocks.proofs.Lanes.{even-at, odd-at, filled_none, filled_next, term-same, weights, weight-at}
use Rattle.blocks.proofs.Lanes.{even-small, even-once, even-often, odd-small, odd-once, odd-often}
use Rattle.blocks.proofs.columns.terms.Goals as goal

pub loop-j-init : goal.loop-j-init
loop-j-init c = (filled_none _, filled_none _)

pub overflow_add-odd : goal.overflow_add-odd
overflow_add-odd c =
    let small = odd-small c.args.one c.args.two c.requires c.loop-j.j (omega arith) in
    search rules

pub overflow_add-odd_often : goal.overflow_add-odd_often
overflow_add-odd_often c =
    let small = odd-small c.args.one c.args.two c.requires c.loop-j.j (omega arith) in
    search rules

pub overflow_add-once : goal.overflow_add-once
overflow_add-once c =
    let a = c.args in
    let j = c.loop-j.j in
    let here : j < 8 = omega arith in
    let low = odd-small a.one a.two c.requires j here in
    let small = even-small a.one a.two c.requires j here in
    let once = c.even-even_once.ensures ∙ even-once a.one a.two c.requires j here _ refl in
    omega (arith, small.0, once)

pub column_term-requires : goal.column_term-requires
column_term-requires c =
    let a = c.args in
    let j = c.loop-j.j in
    let here : j < 8 = omega arith in
    let low = even-small a.one a.two c.requires j here in
    let once = c.even-even_once.ensures ∙ even-once a.one a.two c.requires j here _ refl in
    let often = c.even-even_often.ensures ∙ even-often a.one a.two c.requires j here _ refl in
    let second = c.even.ensures ∙ sym (even-at a.two.mixed a.two.odd j) in
    (omega arith, (omega arith, (omega (arith, weight-at j here), omega arith)))

pub overflow_sub-w : goal.overflow_sub-w
overflow_sub-w c =
    let w = weight-at c.loop-j.j (omega arith) in
    search rules

pub column_term-requires-in-loop-j : goal.column_term-requires-in-loop-j
column_term-requires-in-loop-j c =
    let j = c.loop-j.j in
    let here : j < 8 = omega arith in
    let low = odd-small c.args.one c.args.two c.requires j here in
    (low.0, (low.1.0, (omega (arith, weight-at j here), low.1.1)))

pub loop-j-preserved : goal.loop-j-preserved
loop-j-preserved c =
    let one = c.args.one in
    let two = c.args.two in
    let j = c.loop-j.j in
    let here : j < 8 = omega arith in
    let low = even-small one two c.requires j here in
    let high = odd-small one two c.requires j here in
    let weight = weight-at j here in
    let once = c.even-even_once.ensures ∙ even-once one two c.requires j here _ refl in
    let often = c.even-even_often.ensures ∙ even-often one two c.requires j here _ refl in
    let second_is = c.even.ensures ∙ sym (even-at two.mixed two.odd j) in
    let beside = odd-once one two c.requires j here in
    let less : get_or weights j 0 - 1 ≡ 15 - (2 * j + 1) = omega (arith, weight) in
    let first = c.column_term.ensures.0 ∙ term-same once often weight second_is in
    let second =
    c.column_term-in-loop-j.ensures.0
    ∙ term-same beside (odd-often one two c.requires j here) less (sym (odd-at two.mixed two.odd j)) in (
      filled_next here (ap₂ ◌+◌ once beside) (omega arith) c.loop-j.invariant.0,
      filled_next here (ap₂ ◌+◌ first second) (omega arith) c.loop-j.invariant.1,
    )

pub returns : goal.returns
returns c =
    let once = c.loop-j.invariant.0.filled in
    let often = c.loop-j.invariant.1.filled in
    record {
      all = λ i h. (once i (omega arith)).0;
      counted = λ i h. (often i (omega arith)).0;
      low_once = λ i h. (once i (omega arith)).1;
      low_often = λ i h. (often i (omega arith)).1;
    }
