use Prim.Native.Nat.{◌+◌, ◌≤◌, ◌<◌}
use native.Mathlib.Omega.{arith}
use borrow.Author.Tests.{lt-ltb, le-ltb}
use Rattle.header.specs.Layout.{class_at}
use Rattle.header.proofs.counts.class_at.Goals as goal

pub returns-then-i-counts : goal.returns-then-i-counts
unfolding class_at
returns-then-i-counts c = rw (lt-ltb _ _ c.if-i-counts.true)

pub returns-then-i-counts-2 : goal.returns-then-i-counts-2
unfolding class_at
returns-then-i-counts-2 c =
    let a = c.args in
    let g : a.counts.levels ≤ a.i = omega arith in
    let h : a.i < a.counts.levels + a.counts.compartments = omega arith in
    rw (le-ltb _ _ g, lt-ltb _ _ h)

pub returns : goal.returns
unfolding class_at
returns c =
    let a = c.args in
    let g : a.counts.levels ≤ a.i = omega arith in
    let h : a.counts.levels + a.counts.compartments ≤ a.i = omega arith in
    rw (le-ltb _ _ g, le-ltb _ _ h)
