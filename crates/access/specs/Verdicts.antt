-- Verdicts on a row's label: first the question on a label, then the tag's look-up.
use Rattle.std.specs.Prelude.{ℕ, Bool, false, cond, not, ◌&&◌, ◌||◌, List, leb, ltb}
use Rattle.sets.specs.Sets.{has, empty, within, meets}
use Rattle.header.specs.declared.edition.Edition.{Edition}
use Rattle.header.specs.declared.edition.Edition.TheVariants.{One, Two}
use Rattle.header.specs.Layout.{edition_of, by_profile, labels}
use Rattle.records.specs.Fields.{place_of_read, place_of_full, has_compaccess}
use Rattle.image.specs.Lookup.{label_of_tag}
use Rattle.labels.specs.Label.{Marks, label_at}
use Rattle.labels.specs.GroupTest.{group_test}
use Rattle.access.specs.Rights.{Rights, between, rights_at, maximum_read_label}

-- ---- privileges
-- READ and FULL see rows of every label
unfoldable pub reads_all : Rights → Bool
reads_all rights = has rights.privileges place_of_read || has rights.privileges place_of_full

-- FULL writes rows of every label
unfoldable pub writes_all : Rights → Bool
writes_all rights = has rights.privileges place_of_full

unfoldable pub holds_compaccess : Rights → Bool
holds_compaccess rights = has_compaccess rights.privileges

-- ---- reading
-- row level ≤ session level
unfoldable pub read_level_rule : Rights → Marks → Bool
read_level_rule rights row = leb row.level rights.level

-- row groups empty, or one of them in below(session groups); in the release profile all session groups are among the row's
unfoldable pub read_groups_rule : Rights → Marks → Bool
read_groups_rule rights row = group_test rights.profile rights.reached_groups row.groups

-- row compartments all in the session's
unfoldable pub read_compartments_rule : Rights → Marks → Bool
read_compartments_rule rights row = within row.compartments rights.compartments

-- COMPACCESS: with the level test met, a row with compartments is also readable if the session has them all
unfoldable pub compaccess_reads : Rights → Marks → Bool
compaccess_reads rights row =
    holds_compaccess rights && read_level_rule rights row && not (empty row.compartments) && read_compartments_rule rights row

-- by level, groups and compartments, or by COMPACCESS
unfoldable pub read_tests : Rights → Marks → Bool
read_tests rights row =
    read_level_rule rights row && read_groups_rule rights row && read_compartments_rule rights row || compaccess_reads rights row

-- a row of that label is readable
unfoldable pub reads_label : Rights → Marks → Bool
reads_label rights row = reads_all rights || read_tests rights row

-- ---- writing
-- minimum ≤ row level ≤ session level
unfoldable pub write_level_rule : Rights → Marks → Bool
write_level_rule rights row = between rights.minimum rights.level row.level

-- one of the row's groups is in the write groups
unfoldable pub write_groups_rule : Rights → Marks → Bool
write_groups_rule rights row = meets row.groups rights.write_groups

-- row compartments all in the write compartments
unfoldable pub write_compartments_rule : Rights → Marks → Bool
write_compartments_rule rights row = within row.compartments rights.write_compartments

-- the row has groups: one is in the write groups, and all its compartments are in the session's. No groups: all its compartments
-- are in the write compartments
unfoldable pub tree_sets_rule : Rights → Marks → Bool
tree_sets_rule rights row =
    cond (empty row.groups) (write_compartments_rule rights row) (write_groups_rule rights row && read_compartments_rule rights row)

-- in the release profile: the read test on groups and compartments, and all its compartments are in the write compartments
unfoldable pub release_sets_rule : Rights → Marks → Bool
release_sets_rule rights row = read_groups_rule rights row && read_compartments_rule rights row && write_compartments_rule rights row

unfoldable pub write_sets_rule : Rights → Marks → Bool
write_sets_rule rights row = by_profile rights.profile (tree_sets_rule rights row) (release_sets_rule rights row)

-- COMPACCESS: with the level test of writing met, minimum included, a row with compartments is also writable if all are write
-- compartments
unfoldable pub compaccess_writes : Rights → Marks → Bool
compaccess_writes rights row =
    holds_compaccess rights && write_level_rule rights row && not (empty row.compartments) && write_compartments_rule rights row

-- by level and sets, or by COMPACCESS
unfoldable pub write_tests : Rights → Marks → Bool
write_tests rights row = write_level_rule rights row && write_sets_rule rights row || compaccess_writes rights row

-- a row of that label is writable
unfoldable pub writes_label : Rights → Marks → Bool
writes_label rights row = writes_all rights || write_tests rights row

-- ---- a verdict is asked of a tag
-- a label carries the tag
unfoldable pub known_tag : List ℕ → ℕ → Bool
known_tag im tag = ltb (label_of_tag im tag) (labels im)

-- tag 0 and unknown tags: in edition 1 whoever sees every row sees them too, otherwise they are denied; in edition 2 they are denied to all
abbrev pub unknown_rule : Edition → Bool → Bool
unknown_rule One all = all
unknown_rule Two all = false

-- rows of such tags may be read with those rights
abbrev pub unknown_read : List ℕ → Rights → Bool
unknown_read im rights = unknown_rule (edition_of im) (reads_all rights)

-- the label at place k decides; where there is none, the edition
abbrev pub reads_at : List ℕ → Rights → ℕ → Bool
reads_at im rights k = cond (ltb k (labels im)) (reads_label rights (label_at im k)) (unknown_read im rights)

-- the label that the tag names decides; where none carries it, the edition
unfoldable pub may_read : List ℕ → Rights → ℕ → Bool
may_read im rights tag = cond (known_tag im tag) (reads_label rights (label_at im (label_of_tag im tag))) (unknown_read im rights)

unfoldable pub may_write : List ℕ → Rights → ℕ → Bool
may_write im rights tag =
    cond (known_tag im tag) (writes_label rights (label_at im (label_of_tag im tag))) (unknown_rule (edition_of im) (writes_all rights))

-- what is readable at the maximum read label follows the same rules
unfoldable pub readable_at_maximum : List ℕ → ℕ → ℕ → Bool
readable_at_maximum im u tag = may_read im (rights_at im u (maximum_read_label im u)) tag
