use mathlib.Core.Bool.{or-false}
use native.Mathlib.Omega.{arith}
use borrow.Author.Tests.{ne_eqb}
use Rattle.header.proofs.Inside.{header-inside}
use Rattle.image.specs.Lookup.{has_component}
use Rattle.image.proofs.lookup.has_component.Goals as goal

pub levels-requires : goal.levels-requires
levels-requires c = header-inside _ c.requires.fitted

pub compartments-requires : goal.compartments-requires
compartments-requires c = header-inside _ c.requires.fitted

pub groups-requires : goal.groups-requires
groups-requires c = header-inside _ c.requires.fitted

pub returns-in-1 : goal.returns-in-1
unfolding has_component
returns-in-1 c = rw (c.in-1.is, or-false, or-false, c.levels.ensures.0)

pub returns-in-2 : goal.returns-in-2
unfolding has_component
returns-in-2 c = rw (c.in-2.is, or-false, c.compartments.ensures.0)

pub returns-in-3 : goal.returns-in-3
unfolding has_component
returns-in-3 c = rw (c.in-3.is, c.groups.ensures.0)

pub returns-in_default : goal.returns-in_default
unfolding has_component
returns-in_default c =
    let n = c.args.class in
    rw (ne_eqb n 1 (λ e. omega arith), ne_eqb n 2 (λ e. omega arith), ne_eqb n 3 (λ e. omega arith))
