use Prim.Native.Nat.{◌≤◌, ◌<◌}
use mathlib.Core.Path.{refl}
use native.Mathlib.Omega.{arith}
use borrow.Author.Tests.{lt-ltb, le-ltb}
use Rattle.header.specs.Layout.{groups, users}
use Rattle.header.proofs.Inside.{header-inside}
use Rattle.hierarchy.specs.Below.{first_ring, first_bad_below}
use Rattle.image.proofs.Tables.{tells-fault}
use Rattle.image.proofs.inspect.group_fault.Goals as goal

pub groups-requires : goal.groups-requires
groups-requires c = header-inside _ c.requires.fitted

pub returns-then-g-groups : goal.returns-then-g-groups
returns-then-g-groups c =
    let im = c.args.image.now in
    let h : first_ring im < groups im = omega (arith, c.first_ring-g.ensures.ring) in
    tells-fault (rw (lt-ltb _ _ h, c.first_ring-g.ensures.ring))

pub first_bad_below-u-requires : goal.first_bad_below-u-requires
first_bad_below-u-requires c =
    (c.requires, (c.first_ring-g.ensures.filled (omega arith), refl))

pub users-requires : goal.users-requires
users-requires c = header-inside _ c.requires.fitted

pub returns-then-u-users : goal.returns-then-u-users
returns-then-u-users c =
    let im = c.args.image.now in
    let g : groups im ≤ first_ring im = omega (arith, c.first_ring-g.ensures.ring) in
    let h : first_bad_below im < users im = omega (arith, c.first_bad_below-u.ensures) in
    tells-fault (rw (le-ltb _ _ g, lt-ltb _ _ h, c.below_fault.ensures, c.first_bad_below-u.ensures))

pub returns : goal.returns
returns c =
    let im = c.args.image.now in
    let g : groups im ≤ first_ring im = omega (arith, c.first_ring-g.ensures.ring) in
    let h : users im ≤ first_bad_below im = omega (arith, c.first_bad_below-u.ensures) in
    record { same = rw (le-ltb _ _ g, le-ltb _ _ h); filled = λ e. c.first_ring-g.ensures.filled (omega arith) }
