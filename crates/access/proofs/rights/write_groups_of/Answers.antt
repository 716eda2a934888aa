use mathlib.Core.Path.{sym, ap, ◌∙◌}
use native.Mathlib.Omega.{arith}
use Rattle.sets.specs.Sets.{all_below}
use Rattle.header.proofs.Inside.{header-inside}
use Rattle.header.proofs.Editions.{counted-groups}
use Rattle.access.proofs.rights.write_groups_of.Goals as goal

pub profile_of-requires : goal.profile_of-requires
profile_of-requires c = header-inside _ c.requires.0.fitted

pub groups-requires : goal.groups-requires
groups-requires c =
    header-inside _ c.requires.0.fitted

pub all_below-requires : goal.all_below-requires
all_below-requires c =
    omega (arith, c.groups.ensures.0, counted-groups c.args.image.now c.requires.0)

pub returns-in-Tree : goal.returns-in-Tree
returns-in-Tree c =
    rw (sym c.profile_of.ensures ∙ c.in-Tree.is, c.intersection.ensures, c.reach.ensures)

pub returns-in-Release : goal.returns-in-Release
returns-in-Release c =
    rw (sym c.profile_of.ensures ∙ c.in-Release.is)
    (c.all_below.ensures ∙ ap all_below c.groups.ensures.0)
