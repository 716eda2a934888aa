use Rattle.std.proofs.Common.{refl, arith, rules}
use Rattle.blocks.proofs.Lanes.{adding-start, adding-room, adding-next, adding-end}
use Rattle.blocks.proofs.columns.add_row.Goals as goal

pub loop-j-init : goal.loop-j-init
loop-j-init c = (search rules, adding-start c.requires.1.1)

pub overflow_add-odd_above : goal.overflow_add-odd_above
overflow_add-odd_above c =
    let room = adding-room _ _ _ _ (omega arith) (omega arith) c.loop-j.invariant.1 in
    search rules

pub overflow_add-odd : goal.overflow_add-odd
overflow_add-odd c =
    let room = adding-room _ _ _ _ (omega arith) (omega arith) c.loop-j.invariant.1 in
    search rules

pub loop-j-preserved : goal.loop-j-preserved
loop-j-preserved c =
    let inv = c.loop-j.invariant in
    (inv.0, adding-next _ _ _ _ (omega arith) (omega arith) inv.1 _ _ _ (omega arith) c.pair-x.ensures.0 c.pair-x.ensures.1 refl refl)

pub returns : goal.returns
returns c = adding-end (omega arith) c.loop-j.invariant.1
