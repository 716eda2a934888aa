use Rattle.std.proofs.Common.{◌+◌, ◌<◌, ◌≤◌, arith, le-ltb, lt-ltb}
use Rattle.header.specs.Layout.{class_first, class_at}
use Rattle.records.proofs.components.class_start.Goals as goal

pub returns-then-i-counts : goal.returns-then-i-counts
unfolding class_first class_at
returns-then-i-counts c = (rw (lt-ltb _ _ c.if-i-counts.true), omega arith)

pub returns-then-i-counts-2 : goal.returns-then-i-counts-2
unfolding class_first class_at
returns-then-i-counts-2 c =
    let a = c.args in
    let g : a.counts.levels ≤ a.i = omega arith in
    let h : a.i < a.counts.levels + a.counts.compartments = omega arith in
    (rw (le-ltb _ _ g, lt-ltb _ _ h), g)

pub returns : goal.returns
unfolding class_first class_at
returns c =
    let a = c.args in
    let g : a.counts.levels ≤ a.i = omega arith in
    let h : a.counts.levels + a.counts.compartments ≤ a.i = omega arith in
    (rw (le-ltb _ _ g, le-ltb _ _ h), h)
