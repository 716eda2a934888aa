-- The first label of a run that breaks a rule, found in two searches: for all that is asked of a label but the highest tag, and up to the
-- place found for that. Tags rise up to there, so that the labels whose tag is above the highest are the last ones.
use Rattle.std.specs.Prelude.{ℕ, zero, suc, ◌-◌, ◌<◌, Bool, ◌&&◌, List, nat_le, nat_lt}
use Rattle.fields.specs.Bytes.{number4}
use Rattle.sets.specs.Sets.{within, all_below}
use Rattle.header.specs.declared.counts.Counts.{Counts}
use Rattle.records.specs.Fields.{tag_of, label_compartments, label_groups}
use Rattle.records.specs.Rules.{run_record}

-- the tag of the label at place j of a run, and of the one before it; before the first stands the tag `first`
abbrev pub run_tag : ℕ → List ℕ → ℕ → ℕ
run_tag size run j = tag_of (run_record size run j)

abbrev pub tag_before : ℕ → ℕ → List ℕ → ℕ → ℕ
tag_before size first run zero = first
tag_before size first run (suc j) = run_tag size run j

-- what is asked of a label after one of the tag `before`, but for the highest tag: the level and the three unused bytes after it are one
-- number
unfoldable pub label_after : Counts → ℕ → List ℕ → Bool
label_after n before rec =
    nat_lt before (tag_of rec) && nat_lt (number4 rec 4) n.levels
    && within (label_compartments rec) (all_below n.compartments) && within (label_groups n.edition rec) (all_below n.groups)

abbrev pub run_after : Counts → ℕ → ℕ → List ℕ → ℕ → Bool
run_after n size first run j = label_after n (tag_before size first run j) (run_record size run j)

-- the tag at place j is not above the highest
abbrev pub tag_limited : ℕ → List ℕ → ℕ → Bool
tag_limited size run j = nat_le (run_tag size run j) 99999999

-- the tags of the first n labels rise
abbrev pub TagsRise : ℕ → List ℕ → ℕ → Type 0
TagsRise size run n = (j : ℕ) → 0 < j → j < n → run_tag size run (j - 1) < run_tag size run j
