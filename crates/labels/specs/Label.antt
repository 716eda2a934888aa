-- A label: a level place, a set of compartments and a set of groups.
use Rattle.std.specs.Prelude.{ℕ, Bool, ◌&&◌, List, ltb}
use Rattle.sets.specs.Sets.{within, all_below}
use Rattle.sets.specs.Groups.{places_of}
use Rattle.header.specs.declared.edition.Edition.{Edition}
use Rattle.header.specs.Layout.{edition_of, levels, compartments, groups, label_record}
use Rattle.records.specs.Fields.{label_level, label_compartments, label_groups}
use Rattle.labels.specs.declared.label.Label.{Label}

-- what a label stands for: numbers and sets of places
pub record Marks : Type 0 where
  pub level : ℕ
  pub compartments : ℕ
  pub groups : ℕ

abbrev pub marks : ℕ → ℕ → ℕ → Marks
marks level compartments groups = record { level = level; compartments = compartments; groups = groups }

abbrev pub marks_of : Label → Marks
marks_of l = marks l.level l.compartments (places_of l.groups)

-- the label in a label record of that edition
abbrev pub record_label : Edition → List ℕ → Marks
record_label edition rec = marks (label_level rec) (label_compartments rec) (label_groups edition rec)

-- the label of the k-th label record
unfoldable pub label_at : List ℕ → ℕ → Marks
label_at im k = record_label (edition_of im) (label_record im k)

-- the policy has every component that the label names
unfoldable pub label_exists : List ℕ → Marks → Bool
label_exists im m =
    ltb m.level (levels im) && within m.compartments (all_below (compartments im)) && within m.groups (all_below (groups im))
