use Rattle.image.specs.Lookup.{user_of_name}
use Rattle.header.specs.Layout.{users}
use Prim.Native.Nat.{◌≤◌, ◌<◌}
use borrow.Author.Tests.{lt-ltb, le-ltb}
use native.Mathlib.Omega.{arith}
use Rattle.header.proofs.Inside.{header-inside}
use Rattle.sessions.specs.Opening.{open_accepted}
use Rattle.sessions.proofs.opening.open_accepted.Goals as goal

pub users-requires : goal.users-requires
users-requires c = header-inside _ c.requires.fitted

pub returns-then-u-users : goal.returns-then-u-users
unfolding open_accepted
returns-then-u-users c =
    let a = c.args in
    let h : users a.image.now ≤ user_of_name a.image.now a.name.now = omega arith in
    rw (le-ltb _ _ h)

pub returns : goal.returns
unfolding open_accepted
returns c =
    let a = c.args in
    let h : user_of_name a.image.now a.name.now < users a.image.now = omega arith in
    rw (lt-ltb _ _ h, c.default_session.ensures, c.user_of_name-u.ensures)
