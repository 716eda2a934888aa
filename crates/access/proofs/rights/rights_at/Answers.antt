use Rattle.header.proofs.Inside.{header-inside}
use Rattle.access.specs.Rights.{rights_at, write_compartments_of, write_groups_of}
use Rattle.access.proofs.rights.rights_at.Goals as goal

pub levels_in-levels-requires : goal.levels_in-levels-requires
levels_in-levels-requires c = c.record_part-rec.ensures.1.1

pub compartments_in-compartments-requires : goal.compartments_in-compartments-requires
compartments_in-compartments-requires c = c.record_part-rec.ensures.1.1

pub edition_of-requires : goal.edition_of-requires
edition_of-requires c =
    header-inside _ c.requires.0.fitted

pub sets_in-groups-requires : goal.sets_in-groups-requires
sets_in-groups-requires c =
    rw c.edition_of.ensures c.record_part-rec.ensures.1.0

pub profile_of-requires : goal.profile_of-requires
profile_of-requires c =
    header-inside _ c.requires.0.fitted

pub write_groups_of-requires : goal.write_groups_of-requires
write_groups_of-requires c =
    (c.requires.0, c.requires.1.0)

pub returns : goal.returns
unfolding rights_at write_compartments_of write_groups_of
returns c =
    rw (
      ← c.record_part-rec.ensures.0,
      ← c.edition_of.ensures,
      c.write_groups_of.ensures,
      c.intersection.ensures,
      c.profile_of.ensures,
      c.reach-reached.ensures,
      c.sets_in-groups.ensures.write,
      c.compartments_in-compartments.ensures,
      c.levels_in-levels.ensures,
    )
