-- The rules of an image's records: of a record by itself, and of a record among those before it in the list of its kind; and of a block:
-- its layout and its records. Each is a Boolean; proofs/Meaning*.antt say what each means for places and bytes.
use Rattle.std.specs.Prelude.{ℕ, zero, suc, ◌+◌, ◌-◌, ◌*◌, ◌/◌, Bool, true, false, not, ◌&&◌, ◌||◌, List, [], length, drop, ◌==◌, nat_le, nat_lt, slice_index_or}
use Rattle.fields.specs.Bytes.{byte_at, part, all_zero}
use Rattle.fields.specs.Names.{name_rule, same_bytes, name_before}
use Rattle.fields.specs.Scan.{first_bad, everywhere, list_from}
use Rattle.sets.specs.Sets.{within, all_below}
use Rattle.header.specs.declared.edition.Edition.{Edition}
use Rattle.header.specs.declared.edition.Edition.TheVariants.{One, Two}
use Rattle.header.specs.declared.profile.Profile.{Profile}
use Rattle.header.specs.declared.layout.Kind.{Kind}
use Rattle.header.specs.declared.layout.Kind.TheVariants.{Component, Label, User}
use Rattle.header.specs.declared.counts.Counts.{Counts}
use Rattle.header.specs.Layout.{by_profile, counts_of, class_first, class_at, kind_byte, record_size, record_at, records_of, contents_of}
use Rattle.records.specs.Fields.{class_of, component_name_field, component_name, numeric_form, parent_of, no_parent, component_end, tag_of, label_level, label_compartments, label_groups, user_name_field, user_name, privileges, has_compaccess, maximum_level, minimum_level, default_level, row_level, read_compartments, write_compartments, default_compartments, row_compartments, read_groups, write_groups, default_groups, row_groups, user_end}

-- ---- lists of records
-- the record at place i
abbrev pub record_in : List (List ℕ) → ℕ → List ℕ
record_in records i = slice_index_or records i []

-- the records of that many bytes in a run of them, one right after the other: the one at place j, and all
abbrev pub run_record : ℕ → List ℕ → ℕ → List ℕ
run_record size run j = part run (size * j) size

unfoldable pub run_records : ℕ → List ℕ → List (List ℕ)
run_records size run = list_from (run_record size run) (length run / size) 0

-- ---- components: levels, then compartments, then groups
-- the place of the first component of the class that the counts put at place i
abbrev pub class_start : Counts → ℕ → ℕ
class_start n i = class_first n (class_at n i)

-- a parent is none, or, of a group, one of the first `count` groups
unfoldable pub parent_rule : Edition → ℕ → ℕ → ℕ → Bool
parent_rule edition class count parent = parent == no_parent edition || class == 3 && nat_lt parent count

-- what a component record must be, whatever the others are; class is the one that the counts put at its place, so that a record of another
-- class is at fault itself; count is the number of groups that may be a parent
unfoldable pub component_shape : Edition → ℕ → ℕ → List ℕ → Bool
component_shape edition class count rec =
    (class_of rec == class) && name_rule (component_name_field rec) && nat_le (numeric_form rec) 9999
    && parent_rule edition class count (parent_of edition rec) && all_zero (drop (component_end edition) rec)

-- of two records that clash the later is at fault: each of the rules below looks at records before its own. Where all before rise, the one
-- right before is enough
-- inside a class the numeric form rises strictly: of the component at place i, and the one right before it
abbrev pub numeric_after : Counts → ℕ → List ℕ → List ℕ → Bool
numeric_after n i previous rec = i == class_start n i || nat_lt (numeric_form previous) (numeric_form rec)

-- the component has another name
unfoldable pub other_name : List ℕ → List ℕ → Bool
other_name name rec = not (same_bytes (component_name rec) name)

-- the same of the component at place j of a run, and of an image
abbrev pub run_named : List ℕ → List ℕ → ℕ → Bool
run_named run name j = other_name name (run_record 40 run j)

abbrev pub others_named : List ℕ → List ℕ → ℕ → Bool
others_named im name j = other_name name (record_at im Component j)

-- no component from place `start` up to place i has the name of the one at i
abbrev pub new_name_from : ℕ → List (List ℕ) → ℕ → Bool
new_name_from start records i = everywhere (λ j. other_name (component_name (record_in records i)) (record_in records j)) (i - start) start

-- inside a class names differ: no earlier component of the class has the name of the one at i
unfoldable pub new_name_rule : Counts → List (List ℕ) → ℕ → Bool
new_name_rule n records i = new_name_from (class_start n i) records i

-- how many groups may be a parent: in the release profile none
abbrev pub parent_count : Counts → ℕ
parent_count n = by_profile n.profile n.groups 0

-- ---- labels
-- what a label record must be, whatever the others are: tag 1 to 99,999,999, level and sets that exist, the rest unused
unfoldable pub label_shape : Counts → List ℕ → Bool
label_shape n rec =
    nat_le 1 (tag_of rec) && nat_le (tag_of rec) 99999999 && nat_lt (label_level rec) n.levels && all_zero (part rec 5 3)
    && within (label_compartments rec) (all_below n.compartments) && within (label_groups n.edition rec) (all_below n.groups)

-- tags rise strictly
abbrev pub tag_after : ℕ → List ℕ → List ℕ → Bool
tag_after k previous rec = k == 0 || nat_lt (tag_of previous) (tag_of rec)

-- ---- users
-- minimum ≤ row level ≤ default ≤ maximum, and the maximum exists, so that all four do
unfoldable pub user_levels_rule : ℕ → List ℕ → Bool
user_levels_rule count rec =
    nat_le (minimum_level rec) (row_level rec) && nat_le (row_level rec) (default_level rec)
    && nat_le (default_level rec) (maximum_level rec) && nat_lt (maximum_level rec) count

-- write and default compartments lie in read, row compartments in default and in write; read ones exist, so that all four do
unfoldable pub user_compartments_rule : ℕ → List ℕ → Bool
user_compartments_rule count rec =
    within (read_compartments rec) (all_below count) && within (write_compartments rec) (read_compartments rec)
    && within (default_compartments rec) (read_compartments rec) && within (row_compartments rec) (default_compartments rec)
    && within (row_compartments rec) (write_compartments rec)

-- the four group sets name only groups that exist
unfoldable pub user_groups_rule : Edition → ℕ → List ℕ → Bool
user_groups_rule edition count rec =
    within (read_groups edition rec) (all_below count) && within (write_groups edition rec) (all_below count)
    && within (default_groups edition rec) (all_below count) && within (row_groups edition rec) (all_below count)

-- edition 2 doesn't have COMPACCESS, and the release profile doesn't
abbrev pub bans_compaccess : Edition → Profile → Bool
bans_compaccess One profile = by_profile profile false true
bans_compaccess Two profile = true

-- privilege bit 128 is zero, and COMPACCESS is absent where it is banned
unfoldable pub privileges_rule : Edition → Profile → ℕ → Bool
privileges_rule edition profile held = nat_lt held 128 && not (bans_compaccess edition profile && has_compaccess held)

-- what a user record must be, whatever the others are
unfoldable pub user_shape : Counts → List ℕ → Bool
user_shape n rec =
    name_rule (user_name_field rec) && privileges_rule n.edition n.profile (privileges rec) && all_zero (part rec 36 4)
    && all_zero (drop (user_end n.edition) rec)
    && user_levels_rule n.levels rec && user_compartments_rule n.compartments rec && user_groups_rule n.edition n.groups rec

-- user names rise strictly in byte order
abbrev pub user_name_after : ℕ → List ℕ → List ℕ → Bool
user_name_after u previous rec = u == 0 || name_before (user_name previous) (user_name rec)

-- ---- a record of any kind, among the records of its kind
-- what is asked of the record at place i and the one right before it; before the first stands the first itself
abbrev pub after_rule : Kind → Counts → ℕ → List ℕ → List ℕ → Bool
after_rule Component n i previous rec = component_shape n.edition (class_at n i) (parent_count n) rec && numeric_after n i previous rec
after_rule Label n k previous rec = label_shape n rec && tag_after k previous rec
after_rule User n u previous rec = user_shape n rec && user_name_after u previous rec

-- the same of the records of a run, of which the first is at place k and comes right after the record `previous`: the record before the one
-- at place j of the run, and what is asked of that one and it
abbrev pub run_before : ℕ → List ℕ → List ℕ → ℕ → List ℕ
run_before size previous run zero = previous
run_before size previous run (suc j) = run_record size run j

unfoldable pub run_rule : Kind → Counts → ℕ → List ℕ → List ℕ → ℕ → Bool
run_rule kind n k previous run j =
    let size = record_size n.edition kind in
    after_rule kind n (k + j) (run_before size previous run j) (run_record size run j)

-- the place in the run of the first that breaks it; their number where none does
abbrev pub first_bad_of_run : Kind → Counts → ℕ → List ℕ → List ℕ → ℕ
first_bad_of_run kind n k previous run = first_bad (run_rule kind n k previous run) (length run / record_size n.edition kind) 0

-- what is asked of a record among all before it: of a component that its name is new
abbrev pub fresh_rule : Kind → Counts → List (List ℕ) → ℕ → Bool
fresh_rule Component n records i = new_name_rule n records i
fresh_rule Label n records i = true
fresh_rule User n records i = true

-- both: the rule of the record at place i
unfoldable pub rule_of : Kind → Counts → List (List ℕ) → ℕ → Bool
rule_of kind n records i = after_rule kind n i (record_in records (i - 1)) (record_in records i) && fresh_rule kind n records i

-- a record of an image, among the image's
abbrev pub record_rule : List ℕ → Kind → ℕ → Bool
record_rule im kind i = rule_of kind (counts_of im) (records_of im kind) i

-- ---- a block after the header
-- its kind and number of records are those that the counts ask for, and the bytes after its records are zero
unfoldable pub layout_rule : List ℕ → ℕ → Bool
layout_rule im b =
    let held = contents_of im b in
    (byte_at im (512 * b) == kind_byte held.kind) && byte_at im (512 * b + 1) == held.to - held.from
    && all_zero (part im (512 * b + held.end) (510 - held.end))

-- its lowest record that breaks a rule; `to` where there is none
unfoldable pub first_bad_record : List ℕ → ℕ → ℕ
first_bad_record im b = let held = contents_of im b in first_bad (record_rule im held.kind) (held.to - held.from) held.from

-- its layout is right and so is every record
unfoldable pub content_rule : List ℕ → ℕ → Bool
content_rule im b = layout_rule im b && first_bad_record im b == (contents_of im b).to
