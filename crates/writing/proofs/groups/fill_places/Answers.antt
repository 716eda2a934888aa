use Prim.Native.Nat.{◌+◌, ◌*◌, ◌<◌}
use mathlib.Core.Path.{◌∙◌}
use native.Mathlib.Omega.{arith}
use borrow.Author.Count.{below_none}
use lib.ListN.{length, length-set}
use Rattle.header.specs.Layout.{class_first}
use Rattle.records.specs.Rules.{run_records}
use Rattle.hierarchy.specs.Below.{parent_in}
use Rattle.hierarchy.proofs.Steps.{stored-length, stored_more}
use Rattle.writing.proofs.groups.fill_places.Goals as goal

pub loop-g-init : goal.loop-g-init
loop-g-init c = (c.requires.1.1, below_none _)

pub bounds-places-g-in-loop-g : goal.bounds-places-g-in-loop-g
bounds-places-g-in-loop-g c =
    rw length-set (omega (arith, c.loop-g.invariant.0, c.requires.1.0, c.loop-g-test.true))

pub bounds-places-g : goal.bounds-places-g
bounds-places-g c =
    omega (arith, c.loop-g.invariant.0, c.requires.1.0, c.loop-g-test.true)

pub loop-g-preserved : goal.loop-g-preserved
unfolding parent_in class_first
loop-g-preserved c =
    let a = c.args in
    let g = c.loop-g.g in
    let places = c.loop-g.places in
    let inv = c.loop-g.invariant in
    let l : 2 * g + 1 < length places = omega (arith, inv.0, c.requires.1.0, c.loop-g-test.true) in
    let more = stored_more (parent_in a.counts (run_records 40 a.components.now)) places g _ l c.parent_at-parent.ensures.0 inv.1 in
    (stored-length places g _ ∙ inv.0, more)

pub returns : goal.returns
returns c = λ g l. c.loop-g.invariant.1 g (omega arith)
