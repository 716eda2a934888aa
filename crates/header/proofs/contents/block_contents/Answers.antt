use native.Mathlib.Omega.{arith}
use Rattle.header.specs.Layout.{contents_of}
use Rattle.header.proofs.Inside.{block-shaped}
use Rattle.header.proofs.contents.block_contents.Goals as goal

pub overflow_sub-from : goal.overflow_sub-from
overflow_sub-from c =
    (block-shaped _ _ _ _ c.kind_at-kind.ensures c.shape_of-shape.ensures c.requires.1.0 c.requires.1.1).0

pub overflow_mul-from : goal.overflow_mul-from
overflow_mul-from c =
    let s = c.shape_of-shape.ensures in
    omega (arith, block-shaped _ _ _ _ c.kind_at-kind.ensures s c.requires.1.0 c.requires.1.1)

pub overflow_add-from : goal.overflow_add-from
overflow_add-from c =
    let s = c.shape_of-shape.ensures in
    omega (arith, block-shaped _ _ _ _ c.kind_at-kind.ensures s c.requires.1.0 c.requires.1.1)

pub overflow_sub-end : goal.overflow_sub-end
overflow_sub-end c =
    let s = c.shape_of-shape.ensures in
    omega (arith, block-shaped _ _ _ _ c.kind_at-kind.ensures s c.requires.1.0 c.requires.1.1)

pub returns : goal.returns
unfolding contents_of
returns c =
    rw (c.min-to.ensures, c.shape_of-shape.ensures.is, c.kind_at-kind.ensures)
