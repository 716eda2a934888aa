use Rattle.std.proofs.Common.{◌≡◌, ◌+◌, ◌-◌, ◌*◌, arith}
use Rattle.records.specs.Rules.{layout_rule}
use Rattle.header.proofs.Inside.{held_by, block_inside}
use Rattle.records.proofs.kinds.laid_out.Goals as goal

pub overflow_add-unused : goal.overflow_add-unused
overflow_add-unused c =
    let h = held_by _ _ _ c.requires.held_value c.requires.counted.1.0 c.requires.counted.1.1 in
    omega (arith, h.within, block_inside _ _ c.requires.counted.0.fitted c.requires.counted.1.1)

pub overflow_sub-result : goal.overflow_sub-result
overflow_sub-result c =
    (held_by _ _ _ c.requires.held_value c.requires.counted.1.0 c.requires.counted.1.1).ordered

pub slice_bounds-all_zero-count : goal.slice_bounds-all_zero-count
slice_bounds-all_zero-count c =
    let h = held_by _ _ _ c.requires.held_value c.requires.counted.1.0 c.requires.counted.1.1 in
    omega (arith, h.after, h.within)

pub slice_bounds-all_zero-start : goal.slice_bounds-all_zero-start
slice_bounds-all_zero-start c =
    let h = held_by _ _ _ c.requires.held_value c.requires.counted.1.0 c.requires.counted.1.1 in
    omega (arith, h.after, h.within)

pub returns : goal.returns
unfolding layout_rule
returns c =
    let b = c.args.b in
    let e = c.args.held.end in
    let cut : 512 * b + 510 - (512 * b + e) ≡ 510 - e = omega arith in
    rw (c.all_zero.ensures, cut, c.kind_byte.ensures, c.requires.held_value)
