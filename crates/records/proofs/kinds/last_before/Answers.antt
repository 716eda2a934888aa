use Rattle.std.proofs.Common.{arith}
use Rattle.records.proofs.BlockRuns.{of-needed, before-room, before-long, before-taken}
use Rattle.records.proofs.kinds.last_before.Goals as goal

pub overflow_sub-at : goal.overflow_sub-at
overflow_sub-at c =
    let p = c.requires in
    omega (arith, (of-needed _ _ _ p.1.1).0, before-room _ _ _ _ p.1.0 p.1.1 p.0)

pub overflow_mul-at : goal.overflow_mul-at
overflow_mul-at c =
    let p = c.requires in
    omega (arith, (of-needed _ _ _ p.1.1).0, before-room _ _ _ _ p.1.0 p.1.1 p.0)

pub overflow_add-at : goal.overflow_add-at
overflow_add-at c =
    let p = c.requires in
    omega (arith, (of-needed _ _ _ p.1.1).0, before-room _ _ _ _ p.1.0 p.1.1 p.0)

pub overflow_add-at-2 : goal.overflow_add-at-2
overflow_add-at-2 c =
    let p = c.requires in
    omega (arith, (of-needed _ _ _ p.1.1).0, before-room _ _ _ _ p.1.0 p.1.1 p.0)

pub overflow_add-end : goal.overflow_add-end
overflow_add-end c =
    let p = c.requires in
    omega (arith, (of-needed _ _ _ p.1.1).0, before-room _ _ _ _ p.1.0 p.1.1 p.0)

pub slice_bounds-result-end : goal.slice_bounds-result-end
slice_bounds-result-end c =
    let p = c.requires in
    omega (arith, (of-needed _ _ _ p.1.1).0, before-room _ _ _ _ p.1.0 p.1.1 p.0)

pub returns : goal.returns
returns c =
    let p = c.requires in
    record { kind_in_bounds = before-long _ _ _ _ p.1.0 p.1.1 p.0; result_value = before-taken _ _ _ _ p.1.0.is p.1.1 }
