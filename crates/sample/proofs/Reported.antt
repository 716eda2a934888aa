-- The report of the sample co-operative, computed: the three lines of document 01, byte for byte. Assumes nothing.
use mathlib.Core.Path.{◌≡◌}
use mathlib.Core.List.{[], ◌∷◌}
use Rattle.sets.specs.Words.{joined}
use Rattle.records.specs.Fields.{groups_at}
use Rattle.fields.specs.Bytes.{number2, number4, number8}
use Rattle.fields.specs.Names.{name_in}
use Rattle.fields.specs.Scan.{first_bad, list_from}
use Rattle.sets.specs.Sets.{has, empty, within, meets, collect}
use Rattle.header.specs.Layout.{levels, compartments, groups, users, labels, components, first_block, blocks_for, record_offset, record_at, class_first, edition_of, profile_of, records_of}
use Rattle.hierarchy.specs.Forest.{has_parent_in, lineage_within_in, lineage_in, below_in}
use Rattle.hierarchy.specs.Below.{parent_in, reach}
use Rattle.labels.specs.GroupTest.{group_test}
use Rattle.access.specs.Rights.{write_compartments_of, write_groups_of, rights_at}
use Rattle.access.specs.Verdicts.{reads_all, writes_all, holds_compaccess, read_level_rule, read_groups_rule, read_compartments_rule, compaccess_reads, read_tests, reads_label, write_level_rule, write_groups_rule, write_compartments_rule, write_sets_rule, compaccess_writes, write_tests, writes_label, tree_sets_rule}
use Rattle.labels.specs.Label.{label_at}
use Rattle.sessions.specs.Opening.{default_label, default_row_label, default_session}
use Rattle.lines.specs.Lines.{digit_count, decimal, ending, line_at, lines_from, users_from, report_of, output_of}
use Rattle.sample.specs.Cooperative.{cooperative}
use Rattle.sample.proofs.Sample.{sample-accepted}

-- MARA 10 rw, MARA 20 --, MARA 30 r-
pub sample-output : output_of cooperative
    ≡ 77 ∷ 65 ∷ 82 ∷ 65 ∷ 32 ∷ 49 ∷ 48 ∷ 32 ∷ 114 ∷ 119 ∷ 10
    ∷ 77 ∷ 65 ∷ 82 ∷ 65 ∷ 32 ∷ 50 ∷ 48 ∷ 32 ∷ 45 ∷ 45 ∷ 10
    ∷ 77 ∷ 65 ∷ 82 ∷ 65 ∷ 32 ∷ 51 ∷ 48 ∷ 32 ∷ 114 ∷ 45 ∷ 10 ∷ []
unfolding output_of report_of users_from lines_from line_at ending decimal digit_count default_session default_label default_row_label label_at reads_label read_tests read_level_rule read_groups_rule group_test read_compartments_rule compaccess_reads holds_compaccess reads_all writes_all writes_label write_tests write_level_rule write_sets_rule write_groups_rule write_compartments_rule compaccess_writes rights_at write_compartments_of write_groups_of cooperative number2 number4 number8 name_in has empty within meets collect first_bad levels compartments groups users labels components first_block blocks_for record_offset record_at records_of list_from parent_in class_first has_parent_in lineage_within_in lineage_in below_in edition_of groups_at joined tree_sets_rule profile_of reach
sample-output = rw sample-accepted
