-- The limits of an image's counts and of label text, and what code may take for granted once header and length are sound.
use Rattle.std.specs.Prelude.{ℕ, ◌≤◌, List}
use Rattle.header.specs.declared.edition.Edition.{Edition}
use Rattle.header.specs.declared.limits.Limits.{Limits}
use Rattle.header.specs.Layout.{edition_of, by_edition, levels, compartments, groups, users, labels, Fitted}

-- the most that an image may have of each, and the longest text that is read under it
abbrev pub limits_in : Edition → Limits
limits_in edition =
    record {
      levels = 32;
      compartments = 64;
      groups = by_edition edition 64 256;
      users = by_edition edition 96 32;
      labels = by_edition edition 1680 800;
      text = by_edition edition 4096 10000;
    }

abbrev pub limits_of : List ℕ → Limits
limits_of im = limits_in (edition_of im)

-- the length is what the counts need, and no count is past its limit
pub record Counted (im : List ℕ) : Type 0 where
  pub fitted : Fitted im
  pub levels_limit : levels im ≤ (limits_of im).levels
  pub compartments_limit : compartments im ≤ (limits_of im).compartments
  pub groups_limit : groups im ≤ (limits_of im).groups
  pub users_limit : users im ≤ (limits_of im).users
  pub labels_limit : labels im ≤ (limits_of im).labels
