-- The small image of the release profile is accepted, and what MARA reads and writes in it is computed: so the laws on that profile speak of images and
-- sessions that there are. With SOUTH beside NORTH her session reads less. Assumes nothing.
use Rattle.std.proofs.Common.{Ok}
use Prim.Native.Nat.{ℕ}
use mathlib.Core.Path.{◌≡◌, refl}
use Rattle.sets.specs.Words.{joined}
use Rattle.records.specs.Fields.{groups_at}
use Rattle.fields.specs.Bytes.{number2, number4, number8, all}
use Rattle.fields.specs.Names.{name_byte, name_in, name_rule, same_bytes, name_before}
use Rattle.fields.specs.Scan.{first_bad, list_from}
use Rattle.sets.specs.Sets.{has, all_below, within, meets, collect}
use Rattle.blocks.specs.Blocks.{length_rule, block_at, sum_a, sum_b, check_rule, place_rule, block_rule, block_count, first_bad_block}
use Rattle.header.specs.Layout.{levels, compartments, groups, users, labels, components, first_block, blocks_for, blocks_needed, record_offset, record_at, contents_of, kind_at, class_at, class_first, records_of, edition_of, profile_of}
use Rattle.header.specs.Header.{header_rule, fit_rule, counts_rule}
use Rattle.records.specs.Rules.{parent_rule, component_shape, new_name_rule, label_shape, user_levels_rule, user_compartments_rule, user_groups_rule, privileges_rule, user_shape, rule_of, layout_rule, first_bad_record, content_rule, other_name}
use Rattle.hierarchy.specs.Forest.{has_parent_in, ends_within_in, ends_in, first_ring_in, lineage_within_in, lineage_in, below_in}
use Rattle.hierarchy.specs.Below.{parent_in, below_sets, first_bad_sets, group_sets_in, record_sets, reach}
use Rattle.image.specs.Walk.{first_bad_content, content_fault, counted_fault, found_fault}
use mathlib.Core.Bool.{true, false}
use Rattle.header.specs.declared.profile.Profile.TheVariants.{Release}
use Rattle.sets.specs.Sets.{empty}
use Rattle.image.specs.Check.{check_of}
use Rattle.image.specs.Lookup.{label_of_tag}
use Rattle.labels.specs.Label.{label_at}
use Rattle.labels.specs.GroupTest.{group_test}
use Rattle.access.specs.Rights.{rights_at, write_compartments_of, write_groups_of}
use Rattle.access.specs.NewLabels.{session_groups_rule, row_inside, session_label_answer, row_label_answer, session_rule}
use Rattle.access.specs.Verdicts.{known_tag, may_read, may_write, reads_all, writes_all, holds_compaccess, read_level_rule, read_groups_rule, read_compartments_rule}
use Rattle.access.specs.Verdicts.{compaccess_reads, read_tests, reads_label, write_level_rule, write_compartments_rule, release_sets_rule, write_sets_rule}
use Rattle.access.specs.Verdicts.{compaccess_writes, write_tests, writes_label}
use Rattle.hierarchy.specs.Below.{release_sets}
use Rattle.sessions.specs.Session.{SessionMarks, lent_answer, session_rights}
use Rattle.sample.specs.Partners.{partners, of_north, of_both}
use Rattle.sample.proofs.Sample.{sound-accepted}

partners-sound : found_fault partners ≡ Ok tt
unfolding partners number2 number4 number8 all name_byte name_in name_rule same_bytes name_before first_bad has all_below within meets collect length_rule block_at sum_a sum_b check_rule place_rule block_rule block_count first_bad_block levels compartments groups users labels components first_block blocks_for blocks_needed record_offset record_at contents_of kind_at header_rule fit_rule class_at class_first parent_rule component_shape other_name new_name_rule label_shape user_levels_rule user_compartments_rule user_groups_rule privileges_rule user_shape rule_of records_of list_from layout_rule first_bad_record content_rule parent_in has_parent_in ends_within_in ends_in first_ring_in lineage_within_in lineage_in below_in below_sets first_bad_sets first_bad_content content_fault counted_fault found_fault edition_of counts_rule groups_at joined group_sets_in record_sets profile_of reach release_sets
partners-sound = refl

pub partners-accepted : check_of partners ≡ Ok tt
partners-accepted = sound-accepted partners partners-sound

pub partners-release : profile_of partners ≡ Release
unfolding profile_of partners
partners-release = refl

pub both-pass : (lent_answer partners of_north ≡ Ok tt) × (lent_answer partners of_both ≡ Ok tt)
unfolding lent_answer session_rule session_label_answer row_label_answer row_inside session_groups_rule rights_at write_compartments_of write_groups_of partners number2 number4 number8 within meets collect levels compartments groups users labels components first_block blocks_for record_offset record_at edition_of groups_at joined profile_of reach all_below has
both-pass = (rw partners-accepted, rw partners-accepted)

-- of NORTH: rows that go to NORTH, whoever else they go to; not those that go to none
pub record North : Type 0 where
  pub reads10 : may_read partners (session_rights partners of_north) 10 ≡ true
  pub reads20 : may_read partners (session_rights partners of_north) 20 ≡ true
  pub hides30 : may_read partners (session_rights partners of_north) 30 ≡ false
  pub hides40 : may_read partners (session_rights partners of_north) 40 ≡ false
  pub writes20 : may_write partners (session_rights partners of_north) 20 ≡ true
  pub leaves30 : may_write partners (session_rights partners of_north) 30 ≡ false

pub north-verdicts : North
unfolding may_read known_tag label_at reads_label read_tests read_level_rule read_groups_rule group_test read_compartments_rule compaccess_reads holds_compaccess reads_all may_write writes_all writes_label write_tests write_level_rule write_sets_rule release_sets_rule write_compartments_rule compaccess_writes rights_at write_compartments_of write_groups_of partners number2 number4 number8 has empty within meets collect first_bad levels compartments groups users labels components first_block blocks_for record_offset record_at label_of_tag edition_of groups_at joined profile_of reach all_below
north-verdicts = record { reads10 = refl; reads20 = refl; hides30 = refl; hides40 = refl; writes20 = refl; leaves30 = refl }

-- of both: those alone that go to both
pub both-verdicts : (may_read partners (session_rights partners of_both) 10 ≡ false) × (may_read partners (session_rights partners of_both) 20 ≡ true)
unfolding may_read known_tag label_at reads_label read_tests read_level_rule read_groups_rule group_test read_compartments_rule compaccess_reads holds_compaccess reads_all may_write writes_all writes_label write_tests write_level_rule write_sets_rule release_sets_rule write_compartments_rule compaccess_writes rights_at write_compartments_of write_groups_of partners number2 number4 number8 has empty within meets collect first_bad levels compartments groups users labels components first_block blocks_for record_offset record_at label_of_tag edition_of groups_at joined profile_of reach all_below
both-verdicts = (refl, refl)
