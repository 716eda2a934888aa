use Rattle.std.proofs.Common.{ℕ, ap₂, arith, rules}
use Rattle.blocks.proofs.Joins.{columns-small, first-sum, second-sum}
use Rattle.blocks.proofs.frame.sums.Goals as goal

-- src/frame.rt:31:9
pub join-all-requires : goal.join-all-requires
join-all-requires c =
    columns-small c.args.block.now _ _ c.requires c.half_columns.ensures c.half_columns-2.ensures

-- src/frame.rt:35:13
pub overflow_sub-result : goal.overflow_sub-result
overflow_sub-result c =
    let block = c.args.block.now in
    let x = c.from-x.ensures in
    let y = c.from-y.ensures in
    let sum = first-sum block _ _ c.requires c.half_columns.ensures c.half_columns-2.ensures _ _ c.join-all.ensures.0 in
    omega arith

-- src/frame.rt:35:13
pub overflow_sub-result-2 : goal.overflow_sub-result-2
overflow_sub-result-2 c =
    let block = c.args.block.now in
    let x = c.from-x.ensures in
    let y = c.from-y.ensures in
    let sum = first-sum block _ _ c.requires c.half_columns.ensures c.half_columns-2.ensures _ _ c.join-all.ensures.0 in
    omega arith

-- src/frame.rt:36:13
pub overflow_add-result : goal.overflow_add-result
overflow_add-result c =
    let most = c.join-all.ensures.1 in
    search rules

-- src/frame.rt:27:1
pub returns : goal.returns
returns c =
    let block = c.args.block.now in
    let x = c.from-x.ensures in
    let y = c.from-y.ensures in
    let sum = first-sum block _ _ c.requires c.half_columns.ensures c.half_columns-2.ensures _ _ c.join-all.ensures.0 in
    let other = second-sum block _ _ c.requires c.half_columns.ensures c.half_columns-2.ensures _ _ c.join-all.ensures.0 in
    rw (x, y) (ap₂ (λ (a b : ℕ). record { a = a; b = b }) sum.1 other)
