-- What code that passes over the first full blocks of labels knows of a run of labels and of a block. What the labels name is gathered, and
-- only the whole is held against what exists.
use Rattle.std.specs.Prelude.{◌≡◌, ℕ, ◌+◌, ◌-◌, ◌*◌, ◌/◌, ◌<◌, ◌≤◌, true, List, length, ◌≢◌}
use Rattle.fields.specs.Bytes.{byte_at, part, number4, all_zero}
use Rattle.sets.specs.Groups.{places_of}
use Rattle.sets.specs.Sets.{within}
use Rattle.header.specs.declared.edition.Edition.{Edition}
use Rattle.header.specs.declared.counts.Counts.{Counts}
use Rattle.header.specs.declared.layout.Shape.{Shape}
use Rattle.header.specs.declared.layout.Kind.TheVariants.{Label}
use Rattle.header.specs.Layout.{kind_byte}
use Rattle.records.specs.declared.label_blocks.Gathered.{Gathered}
use Rattle.records.specs.Fields.{tag_of, label_compartments, label_groups}
use Rattle.records.specs.LabelRuns.{tag_before, run_after}
use Rattle.records.specs.Rules.{run_record}

-- a label's tag is above `before`, its level below `levels`, and its sets lie in the two given ones
pub record LabelIn (edition : Edition) (before levels compartments groups : ℕ) (rec : List ℕ) : Type 0 where
  pub rises : before < tag_of rec
  pub level : number4 rec 4 < levels
  pub named : within (label_compartments rec) compartments ≡ true
  pub grouped : within (label_groups edition rec) groups ≡ true

-- so is each of the first n labels of a run, where the tag before the first is `before`; the last of their tags is `last`, which is `before`
-- where there are none
pub record GatheredOf (edition : Edition) (size : ℕ) (run : List ℕ) (before levels n last compartments groups : ℕ) : Type 0 where
  pub each : (j : ℕ) → j < n → LabelIn edition (tag_before size before run j) levels compartments groups (run_record size run j)
  pub end : last ≡ tag_before size before run n

-- where `last` is not 0, so is each label of the run, and it is the last of their tags
abbrev pub AllGathered : Edition → ℕ → List ℕ → ℕ → ℕ → Gathered → Type 0
AllGathered edition size run before levels all =
    (all.last ≢ 0) → GatheredOf edition size run before levels (length run / size) all.last all.compartments (places_of all.groups)

-- the records of a full block, and where its unused bytes begin
abbrev pub full_run : Shape → List ℕ → List ℕ
full_run shape block = part block 4 (shape.size * shape.capacity)

abbrev pub full_end : Shape → ℕ
full_end shape = 4 + shape.size * shape.capacity

-- a full block of labels in which nothing is wrong; the tag before its first label is `before`, the last of its tags `last`
pub record FineBlock (n : Counts) (shape : Shape) (before : ℕ) (block : List ℕ) (last : ℕ) : Type 0 where
  pub kind : byte_at block 0 ≡ kind_byte Label
  pub number : byte_at block 1 ≡ shape.capacity
  pub unused : all_zero (part block (full_end shape) (510 - full_end shape)) ≡ true
  pub each : (j : ℕ) → j < shape.capacity → run_after n shape.size before (full_run shape block) j ≡ true
  pub end : last ≡ tag_before shape.size before (full_run shape block) shape.capacity
  pub limited : last ≤ 99999999
