-- The tests of a row that is read, one after the other: the first that fails denies, and COMPACCESS grants before groups are asked. Assumes nothing.
use mathlib.Core.Path.{◌≡◌, refl, sym}
use mathlib.Core.Bool.{Bool, true, false, not, ◌&&◌, ◌||◌}
use Rattle.sets.specs.Sets.{empty}
use Rattle.labels.specs.Label.{Marks}
use Rattle.access.specs.Rights.{Rights}
use Rattle.access.specs.Verdicts.{reads_all, holds_compaccess, reads_label}
use Rattle.access.specs.Verdicts.{read_level_rule, read_groups_rule, read_compartments_rule, compaccess_reads, read_tests}

-- ---- `read_tests` by its parts: level, groups, compartments; COMPACCESS, some compartments
abbrev tests : Bool → Bool → Bool → Bool → Bool → Bool
tests level groups compartments held some = level && groups && compartments || held && level && some && compartments

level-denies : (groups compartments held some : Bool) → tests false groups compartments held some ≡ false
level-denies groups compartments true some = refl
level-denies groups compartments false some = refl

compartments-deny : (groups held some : Bool) → tests true groups false held some ≡ false
compartments-deny true true true = refl
compartments-deny true true false = refl
compartments-deny true false some = refl
compartments-deny false true true = refl
compartments-deny false true false = refl
compartments-deny false false some = refl

compaccess-grants : (groups held some : Bool) → (held && some) ≡ true → tests true groups true held some ≡ true
compaccess-grants true held some e = refl
compaccess-grants false true true e = refl
compaccess-grants false true false e = e
compaccess-grants false false some e = e

groups-decide : (groups held some : Bool) → (held && some) ≡ false → tests true groups true held some ≡ groups
groups-decide true held some e = refl
groups-decide false true true e = e
groups-decide false true false e = refl
groups-decide false false some e = refl

module _ (rights : Rights) (row : Marks) where
  abbrev some : Bool
  some = not (empty row.compartments)

  pub by_all : reads_all rights ≡ true → true ≡ reads_label rights row
  unfolding reads_label
  by_all e = rw e

  pub by_tests : reads_all rights ≡ false → read_tests rights row ≡ reads_label rights row
  unfolding reads_label
  by_tests e = rw e

  pub by_level : read_level_rule rights row ≡ false → false ≡ read_tests rights row
  unfolding read_tests compaccess_reads
  by_level e = rw e (sym (level-denies (read_groups_rule rights row) (read_compartments_rule rights row) (holds_compaccess rights) some))

  module _ (level : read_level_rule rights row ≡ true) where
    pub by-compartments : read_compartments_rule rights row ≡ false → false ≡ read_tests rights row
    unfolding read_tests compaccess_reads
    by-compartments e = rw (level, e) (sym (compartments-deny (read_groups_rule rights row) (holds_compaccess rights) some))

    module _ (inside : read_compartments_rule rights row ≡ true) where
      pub by-compaccess : (holds_compaccess rights && some) ≡ true → true ≡ read_tests rights row
      unfolding read_tests compaccess_reads
      by-compaccess e = rw (level, inside) (sym (compaccess-grants (read_groups_rule rights row) (holds_compaccess rights) some e))

      pub by-groups : (holds_compaccess rights && some) ≡ false → read_groups_rule rights row ≡ read_tests rights row
      unfolding read_tests compaccess_reads
      by-groups e = rw (level, inside) (sym (groups-decide (read_groups_rule rights row) (holds_compaccess rights) some e))
