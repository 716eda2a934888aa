use Prim.Native.Nat.{ℕ, ◌<◌}
use mathlib.Core.Path.{◌≡◌, sym, ap, ◌∙◌}
use mathlib.Core.List.{List}
use native.Mathlib.Omega.{arith}
use Rattle.sets.specs.Sets.{intersection}
use Rattle.hierarchy.specs.Forest.{below_in, forest_by, order_at, OrderedBy}
use Rattle.hierarchy.proofs.Under.{below-groups}
use Rattle.hierarchy.proofs.InOrder.{descend-start, descend-put, descend-pass, descend-end}
use Rattle.hierarchy.proofs.table.below_in_word.Goals as goal
use Rattle.hierarchy.proofs.table.below_in_word.Goals.{then-p-count+then-has, then-p-count+else-has, else-p-count}

-- a group of the order is one of those
group : (count : ℕ) (table : List ℕ) (i g : ℕ) → OrderedBy count table → i < count → g ≡ order_at table i → g < count
group count table i g all h is = rw is (all.2.group i h)

pub loop-i-init : goal.loop-i-init
loop-i-init c =
    let s = c.args.s in
    descend-start _ _ s _ (c.intersection-groups.ensures ∙ ap (intersection s) c.all_below.ensures)

pub loop-i-preserved : goal.loop-i-preserved
loop-i-preserved c =
    let all = c.requires.0 in
    let so = c.loop-i.invariant in
    let left = c.loop-i-test.true in
    let is = c.ordered-g.ensures in
    let up = c.stored-p.ensures in
    elim c.if-p-count.branch [
      | then-p-count+then-has w ↦
          rw (w.groups-is, w.with-groups.ensures) (descend-put _ _ all _ _ _ _ _ so left is up w.if-p-count.true (sym w.has.ensures ∙ w.if-has.true))
      | then-p-count+else-has w ↦
          rw w.groups-is (descend-pass _ _ all _ _ _ _ _ so left is up (λ h. sym w.has.ensures ∙ w.if-has.false))
      | else-p-count w ↦ rw w.groups-is (descend-pass _ _ all _ _ _ _ _ so left is up (λ h. absurd (omega (arith, w.if-p-count.false))))
    ]

pub returns : goal.returns
returns c =
    let f = forest_by c.args.count c.args.table.now in
    let s = c.args.s in
    descend-end _ _ c.requires.0 _ _ _ c.loop-i.invariant c.loop-i-test.false
    ∙ ap (below_in f) (c.intersection-groups.ensures ∙ ap (intersection s) c.all_below.ensures) ∙ below-groups f s
