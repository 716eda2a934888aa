use Prim.Native.Nat.{◌≤◌, ◌<◌}
use native.Mathlib.Omega.{arith}
use borrow.Author.Tests.{lt-ltb, le-ltb}
use Rattle.header.specs.Layout.{labels}
use Rattle.header.proofs.Inside.{header-inside}
use Rattle.access.proofs.verdicts.reads_at.Goals as goal

pub labels-requires : goal.labels-requires
labels-requires c = header-inside _ c.requires.fitted

pub label_at-requires : goal.label_at-requires
label_at-requires c = (c.requires, omega arith)

pub returns-then-k-labels : goal.returns-then-k-labels
returns-then-k-labels c =
    let a = c.args in
    let h : a.k < labels a.image.now = omega arith in
    rw (lt-ltb _ _ h, c.reads_label.ensures, c.label_at.ensures)

pub unknown_read-requires : goal.unknown_read-requires
unknown_read-requires c = header-inside _ c.requires.fitted

pub returns : goal.returns
returns c =
    let a = c.args in
    let h : labels a.image.now ≤ a.k = omega arith in
    rw (le-ltb _ _ h) c.unknown_read.ensures
