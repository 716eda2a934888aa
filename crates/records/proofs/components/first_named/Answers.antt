use Rattle.std.proofs.Common.{◌≡◌, ℕ, ◌+◌, ◌<◌, ◌≤◌, sym, subst, arith}
use Rattle.fields.proofs.Scan.{loop-end, part-bad, part-good}
use Rattle.header.specs.declared.layout.Kind.TheVariants.{Component}
use Rattle.header.specs.declared.layout.Shape.{Shape}
use Rattle.header.specs.Layout.{shape_of, Standing}
use Rattle.header.proofs.Inside.{header-inside, record-upto}
use Rattle.records.proofs.components.first_named.Goals as goal

pub shape_of-shape-requires : goal.shape_of-shape-requires
shape_of-shape-requires c = header-inside _ c.requires.0

pub record_at-here-requires : goal.record_at-here-requires
record_at-here-requires c =
    let s = c.shape_of-shape.ensures in
    (s.roomy, rw s.is (omega (arith, record-upto _ c.requires.0 Component c.args.start (omega arith))))

pub returns-then-j-to : goal.returns-then-j-to
returns-then-j-to c =
    let a = c.args in
    let l = c.loop-from in
    let to = c.min-to.result in
    let low : l.from ≤ to = omega arith in
    let high : to ≤ a.end = omega arith in
    part-bad _ _ _ _ _ _ low high l.invariant.1.1 c.first_in_block-j.ensures c.if-j-to.true

pub next_block-here-requires : goal.next_block-here-requires
next_block-here-requires c =
    let l = c.loop-from in
    let s = c.shape_of-shape.ensures in
    let stand = l.invariant.1.0 c.loop-from-test.true in (
      s.roomy,
      (
        subst (λ (x : Shape). Standing x l.from l.here) (sym s.is) stand,
        rw s.is (omega (arith, record-upto _ c.requires.0 Component l.from (omega arith))),
      ),
    )

pub loop-from-preserved : goal.loop-from-preserved
loop-from-preserved c =
    let l = c.loop-from in
    let a = c.args in
    let im = a.image.now in
    let to = c.min-to.result in
    let low : l.from ≤ to = omega arith in
    let high : to ≤ a.end = omega arith in
    let here = c.next_block-here.result in
    let next = subst (λ (x : Shape). Standing x (l.from + l.here.left) here) c.shape_of-shape.ensures.is c.next_block-here.ensures in (
      high,
      (
        (λ (m : to < a.end). let q : l.from + l.here.left ≡ to = omega arith in subst (λ (n : ℕ). Standing (shape_of im Component) n here) q next),
        part-good _ _ _ _ _ _ low high l.invariant.1.1 c.first_in_block-j.ensures c.if-j-to.false,
      ),
    )

pub returns : goal.returns
returns c = loop-end _ _ _ _ c.loop-from-test.false c.loop-from.invariant.1.1
