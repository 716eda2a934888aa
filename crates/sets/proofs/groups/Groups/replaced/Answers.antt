-- `sets::groups::Groups::replaced` meets its contract: one word is another, the others stay. Assumes nothing.
use mathlib.Core.Path.{◌≡◌}
use native.Mathlib.Omega.{arith}
use Rattle.sets.specs.Groups.{places_of}
use Rattle.sets.proofs.groups.Groups.replaced.Goals as goal

pub returns-in-0 : goal.returns-in-0
unfolding places_of
returns-in-0 c = rw c.in-0.is

pub returns-in-1 : goal.returns-in-1
unfolding places_of
returns-in-1 c = rw c.in-1.is

pub returns-in-2 : goal.returns-in-2
unfolding places_of
returns-in-2 c = rw c.in-2.is

pub returns-in_default : goal.returns-in_default
unfolding places_of
returns-in_default c =
    let last : c.args.k ≡ 3 = omega arith in
    rw last
