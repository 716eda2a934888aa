use Prim.Native.Nat.{ℕ}
use mathlib.Core.Path.{◌≡◌, subst}
use native.Mathlib.Omega.{arith}
use borrow.Author.Rules.{rules}
use Rattle.hierarchy.specs.Paths.{OrderFound}
use Rattle.hierarchy.proofs.Ordering.{walk-room, walk-room-differ}
use Rattle.hierarchy.proofs.OrderTurns.{turn-start, turn-ring, turn-next, turn_end}
use Rattle.hierarchy.proofs.order.place_all.Goals as goal

pub loop-g-init : goal.loop-g-init
loop-g-init c =
    turn-start _ _ _ c.requires.count_le_table_room.1.0 c.requires.count_le_table_room.1.1 c.requires.by_index

pub returns-then-n-count : goal.returns-then-n-count
returns-then-n-count c =
    turn-ring _ _ _ _ _ _ _ c.requires.count_le_table_room.0 c.loop-g.invariant c.loop-g-test.true c.walk_length-n.ensures c.if-n-count.true

pub put_walk-requires : goal.put_walk-requires
put_walk-requires c =
    let inv = c.loop-g.invariant in
    let room = walk-room _ _ _ _ _ _ _ inv.placing c.walk_length-n.ensures c.if-n-count.false in
    let differ = walk-room-differ _ _ _ _ _ _ _ inv.placing c.walk_length-n.ensures c.if-n-count.false c.requires.count_le_table_room.0 in
    record { table_len = (inv.long, inv.room); from_le_end = (omega arith, (omega (arith, room, c.requires.count_le_table_room.0), differ)) }

pub loop-g-preserved : goal.loop-g-preserved
loop-g-preserved c =
    turn-next _ _ _ _ _ _ _ c.requires.count_le_table_room.0 c.loop-g.invariant c.loop-g-test.true c.walk_length-n.ensures
    c.if-n-count.false _ _ c.put_walk.ensures (omega (arith, c.table-1.given)) (search rules)

pub returns : goal.returns
returns c =
    let done : c.loop-g.g ≡ c.args.count = omega arith in
    subst (λ (g : ℕ). OrderFound c.args.count c.args.table.now c.loop-g.table g) done
    (turn_end _ _ _ _ _ _ c.requires.count_le_table_room.0 c.loop-g.invariant c.loop-g-test.false)
