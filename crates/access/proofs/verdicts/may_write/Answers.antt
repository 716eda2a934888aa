use Rattle.image.specs.Lookup.{label_of_tag}
use Rattle.header.specs.Layout.{labels}
use borrow.Author.Tests.{lt-ltb, le-ltb}
use native.Mathlib.Omega.{arith}
use Prim.Native.Nat.{◌≤◌, ◌<◌}
use Rattle.image.proofs.Accepted.{accepted-counted}
use Rattle.header.proofs.Inside.{header-inside}
use Rattle.access.specs.Verdicts.{known_tag, may_write}
use Rattle.access.proofs.verdicts.may_write.Goals as goal

pub labels-requires : goal.labels-requires
labels-requires c = header-inside _ (accepted-counted _ c.requires).fitted

pub label_at-requires : goal.label_at-requires
label_at-requires c = (accepted-counted _ c.requires, omega arith)

pub returns-then-k-labels : goal.returns-then-k-labels
unfolding may_write known_tag
returns-then-k-labels c =
    let a = c.args in
    let h : label_of_tag a.image.now a.tag < labels a.image.now = omega arith in
    rw (lt-ltb _ _ h, c.writes_label.ensures, c.label_at.ensures, c.label_of_tag-k.ensures)

pub is_unknown_seen-requires : goal.is_unknown_seen-requires
is_unknown_seen-requires c = header-inside _ (accepted-counted _ c.requires).fitted

pub returns : goal.returns
unfolding may_write known_tag
returns c =
    let a = c.args in
    let h : labels a.image.now ≤ label_of_tag a.image.now a.tag = omega arith in
    rw (le-ltb _ _ h, ← c.writes_all.ensures) c.is_unknown_seen.ensures
