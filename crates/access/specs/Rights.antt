-- What a user's record and a session label give together. It is found once for a session label and then asked of each row's label.
use Rattle.std.specs.Prelude.{ℕ, Bool, ◌&&◌, List, leb}
use Rattle.sets.specs.Sets.{intersection, all_below}
use Rattle.sets.specs.Groups.{places_of}
use Rattle.header.specs.declared.profile.Profile.{Profile}
use Rattle.header.specs.Layout.{edition_of, profile_of, by_profile, groups, user_record}
use Rattle.records.specs.Fields.{privileges, maximum_level, minimum_level, read_compartments, write_compartments, read_groups, write_groups}
use Rattle.hierarchy.specs.Below.{reach}
use Rattle.labels.specs.Label.{Marks, marks}
use Rattle.access.specs.declared.rights.View.{View}

-- lowest ≤ level ≤ highest
abbrev pub between : ℕ → ℕ → ℕ → Bool
between lowest highest level = leb lowest level && leb level highest

-- the image's profile; the session's level and compartments, what its groups reach, its write sets; the user's minimum and maximum level and
-- privileges
pub record Rights : Type 0 where
  pub profile : Profile
  pub level : ℕ
  pub compartments : ℕ
  pub reached_groups : ℕ
  pub write_compartments : ℕ
  pub write_groups : ℕ
  pub minimum : ℕ
  pub maximum : ℕ
  pub privileges : ℕ

-- the session's write compartments are its compartments that the user may write
unfoldable pub write_compartments_of : List ℕ → Marks → ℕ
write_compartments_of rec label = intersection label.compartments (write_compartments rec)

-- its write groups are below(session groups) ∩ below(write groups); in the release profile, where a row label may name any group, all that exist
unfoldable pub write_groups_of : List ℕ → List ℕ → Marks → ℕ
write_groups_of im rec label =
    by_profile (profile_of im) (intersection (reach im label.groups) (reach im (write_groups (edition_of im) rec))) (all_below (groups im))

-- what the user at place u has with that session label
unfoldable pub rights_at : List ℕ → ℕ → Marks → Rights
rights_at im u label =
    let rec = user_record im u in
    record {
      profile = profile_of im;
      level = label.level;
      compartments = label.compartments;
      reached_groups = reach im label.groups;
      write_compartments = write_compartments_of rec label;
      write_groups = write_groups_of im rec label;
      minimum = minimum_level rec;
      maximum = maximum_level rec;
      privileges = privileges rec;
    }

-- the maximum read label: the user's maximum level with the read compartments and read groups
unfoldable pub maximum_read_label : List ℕ → ℕ → Marks
maximum_read_label im u =
    let rec = user_record im u in marks (maximum_level rec) (read_compartments rec) (read_groups (edition_of im) rec)

-- what a view of the code stands for
abbrev pub rights_of : View → Rights
rights_of v =
    record {
      profile = v.profile;
      level = v.level;
      compartments = v.compartments;
      reached_groups = places_of v.reached_groups;
      write_compartments = v.write_compartments;
      write_groups = places_of v.write_groups;
      minimum = v.minimum;
      maximum = v.maximum;
      privileges = v.privileges;
    }

-- the same rights with other privileges
abbrev pub with_privileges : ℕ → Rights → Rights
with_privileges held rights =
    record {
      profile = rights.profile;
      level = rights.level;
      compartments = rights.compartments;
      reached_groups = rights.reached_groups;
      write_compartments = rights.write_compartments;
      write_groups = rights.write_groups;
      minimum = rights.minimum;
      maximum = rights.maximum;
      privileges = held;
    }
