use Rattle.std.proofs.Common.{ap, ◌∙◌, arith}
use Rattle.header.specs.declared.layout.Contents.{Contents}
use Rattle.header.proofs.Inside.{held_by, block_inside}
use Rattle.records.proofs.BlockRuns.{of-needed, holds-it, run-taken}
use Rattle.records.proofs.kinds.records_of.Goals as goal

pub overflow_mul-start : goal.overflow_mul-start
overflow_mul-start c =
    let p = c.requires in
    let n = of-needed _ _ _ p.1.0 in
    let h = held_by _ _ _ p.1.1 n.0 n.1 in
    omega (arith, h.after, h.within, block_inside _ _ p.0 n.1)

pub overflow_add-start : goal.overflow_add-start
overflow_add-start c =
    let p = c.requires in
    let n = of-needed _ _ _ p.1.0 in
    let h = held_by _ _ _ p.1.1 n.0 n.1 in
    omega (arith, h.after, h.within, block_inside _ _ p.0 n.1)

pub overflow_mul-end : goal.overflow_mul-end
overflow_mul-end c =
    let p = c.requires in
    let n = of-needed _ _ _ p.1.0 in
    let h = held_by _ _ _ p.1.1 n.0 n.1 in
    omega (arith, h.after, h.within, block_inside _ _ p.0 n.1)

pub overflow_add-end : goal.overflow_add-end
overflow_add-end c =
    let p = c.requires in
    let n = of-needed _ _ _ p.1.0 in
    let h = held_by _ _ _ p.1.1 n.0 n.1 in
    omega (arith, h.after, h.within, block_inside _ _ p.0 n.1)

pub slice_bounds-result-count : goal.slice_bounds-result-count
slice_bounds-result-count c =
    let p = c.requires in
    let n = of-needed _ _ _ p.1.0 in
    let h = held_by _ _ _ p.1.1 n.0 n.1 in
    omega (arith, h.after, h.within, block_inside _ _ p.0 n.1)

pub slice_bounds-result-start : goal.slice_bounds-result-start
slice_bounds-result-start c =
    let p = c.requires in
    let n = of-needed _ _ _ p.1.0 in
    let h = held_by _ _ _ p.1.1 n.0 n.1 in
    omega (arith, h.after, h.within, block_inside _ _ p.0 n.1)

pub slice_bounds-result-end : goal.slice_bounds-result-end
slice_bounds-result-end c =
    let p = c.requires in
    let n = of-needed _ _ _ p.1.0 in
    let h = held_by _ _ _ p.1.1 n.0 n.1 in
    omega (arith, h.after, h.within, block_inside _ _ p.0 n.1)

pub returns : goal.returns
returns c =
    let p = c.requires in
    let e = p.1.1 ∙ holds-it _ _ _ p.1.0 in
    run-taken _ _ _ _ _ _ p.0 p.1.0 (ap (λ (h : Contents). h.from) e) (ap (λ (h : Contents). h.to) e) (ap (λ (h : Contents). h.end) e)
