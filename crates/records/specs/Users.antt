-- A user's levels and sets, as the values that code hands on.
use Rattle.std.specs.Prelude.{◌≡◌, ℕ, ◌+◌, Bool, ◌&&◌, List}
use Rattle.fields.specs.Bytes.{number8}
use Rattle.sets.specs.Sets.{within}
use Rattle.sets.specs.Groups.{places_of}
use Rattle.header.specs.declared.edition.Edition.{Edition}
use Rattle.records.specs.declared.users.Levels.{Levels}
use Rattle.records.specs.declared.users.CompartmentSets.{CompartmentSets}
use Rattle.records.specs.declared.users.GroupSets.{GroupSets}
use Rattle.records.specs.Fields.{maximum_level, minimum_level, default_level, row_level, read_compartments, write_compartments, default_compartments, row_compartments, read_groups, write_groups, default_groups, row_groups}

abbrev pub levels_of : List ℕ → Levels
levels_of rec =
    record { maximum = maximum_level rec; minimum = minimum_level rec; default = default_level rec; row = row_level rec }

abbrev pub compartments_of : List ℕ → CompartmentSets
compartments_of rec =
    record
    { read = read_compartments rec; write = write_compartments rec; default = default_compartments rec; row = row_compartments rec }

-- the four values are the record's four sets of groups
pub record GroupsAre (edition : Edition) (rec : List ℕ) (sets : GroupSets) : Type 0 where
  pub read : places_of sets.read ≡ read_groups edition rec
  pub write : places_of sets.write ≡ write_groups edition rec
  pub default : places_of sets.default ≡ default_groups edition rec
  pub row : places_of sets.row ≡ row_groups edition rec

-- four words of a record, `size` bytes apart, of which the first begins at k, have only places of `all`
abbrev pub four_within : List ℕ → ℕ → ℕ → ℕ → Bool
four_within rec k size all =
    within (number8 rec k) all && within (number8 rec (k + size)) all && within (number8 rec (k + size + size)) all
    && within (number8 rec (k + size + size + size)) all
