use Prim.Native.Nat.{ℕ, ◌<◌}
use mathlib.Core.Path.{◌≡◌, refl, ap}
use mathlib.Core.List.{List}
use native.Mathlib.Omega.{arith}
use lib.ListN.{get_or}
use Rattle.sets.specs.Sets.{union}
use Rattle.hierarchy.specs.Forest.{table_room, order_at, OrderedBy}
use Rattle.hierarchy.proofs.ColumnTurns.{pass-start, pass-next, pass-end}
use Rattle.hierarchy.proofs.columns.lacked.Goals as goal

-- a group of the order is one that there is room for
group : (count : ℕ) (table : List ℕ) (i g : ℕ) → OrderedBy count table → i < count → g ≡ order_at table i → g < table_room
group count table i g all h is = let l = all.2.group i h in let room = all.0 in omega arith

pub loop-i-init : goal.loop-i-init
loop-i-init c = pass-start _ _ _ c.requires.1

pub loop-i-preserved : goal.loop-i-preserved
loop-i-preserved c =
    let x = get_or c.loop-i.rows c.ordered-g.result 0 in
    pass-next _ _ _ _ _ _ _ _ c.requires.0 c.loop-i.invariant c.loop-i-test.true c.ordered-g.ensures c.stored-p.ensures _
    (ap (union x) c.row_above.ensures) _ _ c.lacking-all.ensures refl

pub returns : goal.returns
returns c =
    pass-end _ _ _ _ _ _ c.requires.0 c.loop-i.invariant c.loop-i-test.false
