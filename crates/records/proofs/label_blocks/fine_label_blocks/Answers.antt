use Rattle.std.proofs.Common.{arith}
use Rattle.records.proofs.PassedLabels.{block_room, passing-next}
use Rattle.records.proofs.label_blocks.fine_label_blocks.Goals as goal

pub overflow_add-at : goal.overflow_add-at
overflow_add-at c =
    omega (arith, block_room c.requires.shaped c.loop-k.invariant c.loop-k-test.true c.requires.counted.0.fitted)

pub overflow_mul-at : goal.overflow_mul-at
overflow_mul-at c =
    omega (arith, block_room c.requires.shaped c.loop-k.invariant c.loop-k-test.true c.requires.counted.0.fitted)

pub overflow_add-at-in-loop-k : goal.overflow_add-at-in-loop-k
overflow_add-at-in-loop-k c =
    omega (arith, block_room c.requires.shaped c.loop-k.invariant c.loop-k-test.true c.requires.counted.0.fitted)

pub slice_bounds-last_of_block-end : goal.slice_bounds-last_of_block-end
slice_bounds-last_of_block-end c =
    omega (arith, block_room c.requires.shaped c.loop-k.invariant c.loop-k-test.true c.requires.counted.0.fitted)

pub loop-k-preserved : goal.loop-k-preserved
loop-k-preserved c =
    passing-next c.requires.shaped c.loop-k.invariant c.loop-k-test.true c.requires.counted.0 c.args.existing.counts c.requires.counted.1.1 _
    (c.last_of_block-last.ensures c.if-last-eq0.false)
