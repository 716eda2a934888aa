use Rattle.std.proofs.Common.{◌*◌, ◌≤◌, sym, ap, ◌∙◌, mul-le-mul_right, arith}
use Rattle.header.specs.declared.layout.Shape.{Shape}
use Rattle.header.proofs.Inside.{header-inside, block_inside, blocks-among}
use Rattle.records.proofs.BlockRuns.{of-needed}
use Rattle.records.proofs.KindWalk.{walk_end, of-kind, held-said, layout-bad, place-low, record-bad, walk-next}
use Rattle.records.proofs.kinds.first_bad_of_kind.Goals as goal

pub shape_of-shape-requires : goal.shape_of-shape-requires
shape_of-shape-requires c = header-inside _ c.requires.0.fitted

-- the first block after those that are fine
pub overflow_add-b : goal.overflow_add-b
overflow_add-b c =
    let s = c.shape_of-shape.ensures in
    let im = c.args.image.now in
    let kind = c.args.kind in
    let n = c.fine_blocks-fine.result in
    let m : 1 * n ≤ c.shape_of-shape.result.capacity * n = mul-le-mul_right n s.roomy.some in
    omega (arith, c.fine_blocks-fine.ensures.kept_upto.1, s.few, ap (λ (x : Shape). x.first) s.is, blocks-among im kind, c.requires.0.fitted)

pub laid_out-requires : goal.laid_out-requires
laid_out-requires c =
    let s = c.shape_of-shape.ensures in
    let more = c.loop-from-test.true in
    let p = c.requires in
    let n = of-needed _ _ _ (of-kind s c.loop-from.invariant more) in
    record { counted = (p.0, (n.0, n.1)); held_value = held-said s c.loop-from.invariant more _ c.min-to.ensures }

pub returns-then-not-laid_out : goal.returns-then-not-laid_out
returns-then-not-laid_out c =
    let s = c.shape_of-shape.ensures in
    layout-bad s c.loop-from.invariant c.loop-from-test.true _ c.min-to.ensures (sym c.laid_out.ensures ∙ c.if-not-laid_out.true)

pub first_bad_held-i-requires : goal.first_bad_held-i-requires
first_bad_held-i-requires c =
    let s = c.shape_of-shape.ensures in
    let w = c.loop-from.invariant in
    let more = c.loop-from-test.true in
    let p = c.requires in
    record {
      counted = p;
      shaped = (s, (of-kind s w more, held-said s w more _ c.min-to.ensures));
      passed = w.passed more;
    }

pub overflow_sub-result : goal.overflow_sub-result
overflow_sub-result c =
    let s = c.shape_of-shape.ensures in
    let laid = sym c.laid_out.ensures ∙ c.if-not-laid_out.false in
    omega (arith, place-low s c.loop-from.invariant c.loop-from-test.true _ c.min-to.ensures laid _ c.first_bad_held-i.ensures.value)

pub returns-then-i-to : goal.returns-then-i-to
returns-then-i-to c =
    let s = c.shape_of-shape.ensures in
    let laid = sym c.laid_out.ensures ∙ c.if-not-laid_out.false in
    record-bad s c.loop-from.invariant c.loop-from-test.true _ c.min-to.ensures laid _ c.first_bad_held-i.ensures.value c.if-i-to.true

pub overflow_add-b-in-loop-from : goal.overflow_add-b-in-loop-from
overflow_add-b-in-loop-from c =
    let s = c.shape_of-shape.ensures in
    let p = c.requires in
    let n = of-needed _ _ _ (of-kind s c.loop-from.invariant c.loop-from-test.true) in
    omega (arith, block_inside _ _ p.0.fitted n.1)

pub loop-from-preserved : goal.loop-from-preserved
loop-from-preserved c =
    let s = c.shape_of-shape.ensures in
    let laid = sym c.laid_out.ensures ∙ c.if-not-laid_out.false in
    walk-next s c.loop-from.invariant c.loop-from-test.true _ c.min-to.ensures laid _ c.first_bad_held-i.ensures.value _ c.if-i-to.false
    c.first_bad_held-i.ensures.passed_2

pub returns : goal.returns
returns c =
    walk_end c.shape_of-shape.ensures c.loop-from.invariant c.loop-from-test.false
