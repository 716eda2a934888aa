use Rattle.std.proofs.Common.{◌≡◌, ℕ, ◌+◌, ◌-◌, ◌<◌, ◌≤◌, not, ap, ◌∙◌, subst, arith}
use Rattle.fields.specs.Scan.{first_bad}
use Rattle.fields.proofs.Scan.{loop-end, part-bad, part-good, bad-upto}
use Rattle.header.specs.declared.layout.Kind.TheVariants.{Component}
use Rattle.header.specs.declared.layout.Shape.{Shape}
use Rattle.header.specs.Layout.{shape_of, record_at, Standing, OneBlock}
use Rattle.header.proofs.Inside.{header-inside, record-upto}
use Rattle.records.specs.Fresh.{alike}
use Rattle.records.proofs.ComponentRuns.{block_inside, block-found}
use Rattle.records.proofs.fresh.alike_in_image.Goals as goal

pub shape_of-shape-requires : goal.shape_of-shape-requires
shape_of-shape-requires c = header-inside _ c.requires.0

pub record_at-here-requires : goal.record_at-here-requires
record_at-here-requires c =
    let s = c.shape_of-shape.ensures in
    (s.roomy, rw s.is (omega (arith, record-upto _ c.requires.0 Component c.args.start (omega arith))))

pub overflow_add-last : goal.overflow_add-last
overflow_add-last c =
    let l = c.loop-from in
    let stand = l.invariant.1.0 c.loop-from-test.true in
    let block : OneBlock c.args.image.now Component l.here.at l.from c.min-to.result =
    record { begins = stand.begins; upto = omega (arith, stand.more) } in
    omega (arith, block_inside _ _ _ _ c.requires.0 (omega arith) (omega (arith, stand.more)) block)

pub slice_bounds-first_alike-end : goal.slice_bounds-first_alike-end
slice_bounds-first_alike-end c =
    let l = c.loop-from in
    let stand = l.invariant.1.0 c.loop-from-test.true in
    let block : OneBlock c.args.image.now Component l.here.at l.from c.min-to.result =
    record { begins = stand.begins; upto = omega (arith, stand.more) } in
    omega (arith, block_inside _ _ _ _ c.requires.0 (omega arith) (omega (arith, stand.more)) block)

pub overflow_add-j : goal.overflow_add-j
overflow_add-j c =
    let l = c.loop-from in
    let stand = l.invariant.1.0 c.loop-from-test.true in
    let block : OneBlock c.args.image.now Component l.here.at l.from c.min-to.result =
    record { begins = stand.begins; upto = omega (arith, stand.more) } in
    let a = c.args in
    let alike_rule = λ (j : ℕ). not (alike a.field (record_at a.image.now Component j)) in
    let found : l.from + c.first_alike.result ≡ first_bad alike_rule (c.min-to.result - l.from) l.from =
    ap (λ (k : ℕ). l.from + k) c.first_alike.ensures
    ∙ block-found _ _ _ _ c.requires.0 (omega arith) (omega (arith, stand.more)) block (λ rec. not (alike a.field rec)) in
    omega (arith, found, bad-upto alike_rule (c.min-to.result - l.from) l.from)

pub returns-then-j-to : goal.returns-then-j-to
returns-then-j-to c =
    let l = c.loop-from in
    let stand = l.invariant.1.0 c.loop-from-test.true in
    let block : OneBlock c.args.image.now Component l.here.at l.from c.min-to.result =
    record { begins = stand.begins; upto = omega (arith, stand.more) } in
    let a = c.args in
    let alike_rule = λ (j : ℕ). not (alike a.field (record_at a.image.now Component j)) in
    let found : l.from + c.first_alike.result ≡ first_bad alike_rule (c.min-to.result - l.from) l.from =
    ap (λ (k : ℕ). l.from + k) c.first_alike.ensures
    ∙ block-found _ _ _ _ c.requires.0 (omega arith) (omega (arith, stand.more)) block (λ rec. not (alike a.field rec)) in
    let low : l.from ≤ c.min-to.result = omega arith in
    let high : c.min-to.result ≤ a.end = omega arith in
    part-bad _ _ _ _ _ _ low high l.invariant.1.1 found c.if-j-to.true

pub loop-from-preserved : goal.loop-from-preserved
loop-from-preserved c =
    let l = c.loop-from in
    let stand = l.invariant.1.0 c.loop-from-test.true in
    let block : OneBlock c.args.image.now Component l.here.at l.from c.min-to.result =
    record { begins = stand.begins; upto = omega (arith, stand.more) } in
    let a = c.args in
    let alike_rule = λ (j : ℕ). not (alike a.field (record_at a.image.now Component j)) in
    let found : l.from + c.first_alike.result ≡ first_bad alike_rule (c.min-to.result - l.from) l.from =
    ap (λ (k : ℕ). l.from + k) c.first_alike.ensures
    ∙ block-found _ _ _ _ c.requires.0 (omega arith) (omega (arith, stand.more)) block (λ rec. not (alike a.field rec)) in
    let to = c.min-to.result in
    let low : l.from ≤ to = omega arith in
    let high : to ≤ a.end = omega arith in
    let here = c.next_block-here.result in
    let next = subst (λ (x : Shape). Standing x (l.from + l.here.left) here) c.shape_of-shape.ensures.is c.next_block-here.ensures in (
      high,
      (
        (λ (m : to < a.end). let q : l.from + l.here.left ≡ to = omega arith in
            subst (λ (n : ℕ). Standing (shape_of a.image.now Component) n here) q next),
        part-good _ _ _ _ _ _ low high l.invariant.1.1 found c.if-j-to.false,
      ),
    )

pub returns : goal.returns
returns c = loop-end _ _ _ _ c.loop-from-test.false c.loop-from.invariant.1.1
