use Rattle.sessions.specs.Opening.{default_label, default_row_label, default_session}
use native.Mathlib.Omega.{arith}
use Rattle.header.proofs.Editions.{counted-users}
use Rattle.header.proofs.Inside.{header-inside}
use Rattle.sessions.proofs.opening.default_session.Goals as goal

pub levels_in-levels-requires : goal.levels_in-levels-requires
levels_in-levels-requires c = c.record_part-rec.ensures.1.1

pub compartments_in-compartments-requires : goal.compartments_in-compartments-requires
compartments_in-compartments-requires c = c.record_part-rec.ensures.1.1

pub edition_of-requires : goal.edition_of-requires
edition_of-requires c =
    header-inside _ c.requires.0.fitted

pub sets_in-groups-requires : goal.sets_in-groups-requires
sets_in-groups-requires c =
    rw c.edition_of.ensures c.record_part-rec.ensures.1.0

pub overflow_cast-result : goal.overflow_cast-result
overflow_cast-result c =
    omega (arith, c.requires.1, counted-users _ c.requires.0)

pub returns : goal.returns
unfolding default_session default_label default_row_label
returns c =
    rw (
      ← c.record_part-rec.ensures.0,
      ← c.edition_of.ensures,
      c.sets_in-groups.ensures.default,
      c.sets_in-groups.ensures.row,
      c.compartments_in-compartments.ensures,
      c.levels_in-levels.ensures,
    )
