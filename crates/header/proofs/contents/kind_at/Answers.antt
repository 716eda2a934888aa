use Prim.Native.Nat.{◌≤◌, ◌<◌}
use native.Mathlib.Omega.{arith}
use borrow.Author.Tests.{lt-ltb, le-ltb}
use Rattle.header.specs.declared.layout.Kind.TheVariants.{Label, User}
use Rattle.header.specs.Layout.{first_block, kind_at}
use Rattle.header.proofs.contents.kind_at.Goals as goal

pub returns-then-b-first_block : goal.returns-then-b-first_block
unfolding kind_at
returns-then-b-first_block c =
    let a = c.args in
    let h : a.b < first_block a.image.now Label = omega arith in
    rw (lt-ltb _ _ h)

pub returns-then-b-first_block-2 : goal.returns-then-b-first_block-2
unfolding kind_at
returns-then-b-first_block-2 c =
    let a = c.args in
    let g : first_block a.image.now Label ≤ a.b = omega arith in
    let h : a.b < first_block a.image.now User = omega arith in
    rw (le-ltb _ _ g, lt-ltb _ _ h)

pub returns : goal.returns
unfolding kind_at
returns c =
    let a = c.args in
    let g : first_block a.image.now Label ≤ a.b = omega arith in
    let h : first_block a.image.now User ≤ a.b = omega arith in
    rw (le-ltb _ _ g, le-ltb _ _ h)
