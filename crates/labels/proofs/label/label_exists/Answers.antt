use native.Mathlib.Omega.{arith}
use Rattle.header.proofs.Editions.{counted-groups}
use Rattle.header.proofs.Inside.{header-inside}
use Rattle.labels.specs.Label.{label_exists}
use Rattle.labels.proofs.label.label_exists.Goals as goal

pub levels-requires : goal.levels-requires
levels-requires c = header-inside _ c.requires.fitted

pub compartments-requires : goal.compartments-requires
compartments-requires c = header-inside _ c.requires.fitted

pub groups-requires : goal.groups-requires
groups-requires c =
    header-inside _ c.requires.fitted

pub all_below-requires-2 : goal.all_below-requires-2
all_below-requires-2 c =
    omega (arith, c.groups.ensures.0, counted-groups _ c.requires)

pub returns : goal.returns
unfolding label_exists
returns c =
    rw (
      c.within-2.ensures,
      c.all_below-2.ensures,
      c.groups.ensures.0,
      c.within.ensures,
      c.all_below.ensures,
      c.compartments.ensures.0,
      c.levels.ensures.0,
    )
