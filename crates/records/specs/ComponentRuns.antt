-- The first component of a run that breaks a rule, found class by class: what is asked of every component of a class is worked out once, and
-- of the record before a component only its numeric form is asked.
use Rattle.std.specs.Prelude.{◌≡◌, ℕ, zero, suc, ◌+◌, ◌/◌, ◌<◌, ◌≤◌, min, Bool, cond, ◌&&◌, ◌||◌, List, ◌==◌, nat_le, nat_lt}
use Rattle.fields.specs.Bytes.{number8}
use Rattle.fields.specs.Names.{name_rule}
use Rattle.header.specs.declared.edition.Edition.{Edition}
use Rattle.header.specs.declared.counts.Counts.{Counts}
use Rattle.header.specs.Layout.{by_edition, class_at}
use Rattle.records.specs.declared.component_run.Asked.{Asked}
use Rattle.records.specs.Fields.{class_of, component_name_field, numeric_form, no_parent}
use Rattle.records.specs.Rules.{run_record, class_start, parent_count}

-- of `count` groups that may be a parent, those that a component of the class may have: none but of a group, and only as many as the byte of a
-- parent's place, in edition 2 its two bytes, can tell
abbrev pub parents_among : Edition → ℕ → ℕ → ℕ
parents_among edition class count = cond (class == 3) (min count (by_edition edition 256 65536)) 0

-- what is asked of every component of a class
abbrev pub asked_of : Counts → ℕ → Asked
asked_of n class = record { class = class; none = no_parent n.edition; parents = parents_among n.edition class (parent_count n) }

-- the lowest numeric form that the component at place i may have: 0 at the first of its class, else one above the record before it
unfoldable pub lowest_form : Counts → ℕ → List ℕ → ℕ
lowest_form n i previous = cond (i == class_start n i) 0 (numeric_form previous + 1)

-- bytes 34 to 39 as one number: the parent's place and the unused bytes after it
abbrev pub parent_number : List ℕ → ℕ
parent_number rec = number8 rec 32 / 65536

-- what is asked of a component whose numeric form is to be `low` or more
unfoldable pub component_after : Asked → ℕ → List ℕ → Bool
component_after asked low rec =
    (class_of rec == asked.class) && nat_le low (numeric_form rec) && nat_le (numeric_form rec) 9999
    && (parent_number rec == asked.none || nat_lt (parent_number rec) asked.parents) && name_rule (component_name_field rec)

-- the same of the component at place j of a run of one class: its lowest form, which is `first` at the first of the run, and what is asked
abbrev pub low_at : ℕ → List ℕ → ℕ → ℕ
low_at first run zero = first
low_at first run (suc j) = numeric_form (run_record 40 run j) + 1

abbrev pub run_asked : Asked → ℕ → List ℕ → ℕ → Bool
run_asked asked first run j = component_after asked (low_at first run j) (run_record 40 run j)

-- the places from i up to r are of one class; below `last` another begins at r
pub record ClassUpto (n : Counts) (i last r : ℕ) : Type 0 where
  pub more : i < r
  pub upto : r ≤ last
  pub same : (j : ℕ) → i ≤ j → j < r → class_at n j ≡ class_at n i
  pub begins : r < last → r ≡ class_start n r
