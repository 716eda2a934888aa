-- What the sample image says of MARA's sessions and of the tags of TwoTables, computed once: the runs of HiddenInstance are put together
-- from these facts. Assumes nothing.
use Rattle.std.proofs.Common.{Ok, Err}
use mathlib.Core.Path.{◌≡◌, refl}
use mathlib.Core.Bool.{true, false}
use Rattle.sets.specs.Words.{joined}
use Rattle.fields.specs.Bytes.{number2, number4, number8, all}
use Rattle.fields.specs.Names.{name_byte, name_in, same_bytes, small_letter, folded}
use Rattle.fields.specs.Scan.{first_bad, list_from}
use Rattle.sets.specs.Sets.{has, empty, within, meets, collect}
use Rattle.refusals.specs.declared.Refusal.TheVariants.{NoUser, RowLabelOutside, SessionRules}
use Rattle.header.specs.Layout.{levels, compartments, groups, users, labels, components, first_block, blocks_for, record_offset, record_at, class_first, user_record, edition_of, profile_of, records_of}
use Rattle.records.specs.Fields.{privileges, groups_at}
use Rattle.hierarchy.specs.Forest.{has_parent_in, lineage_within_in, lineage_in, below_in}
use Rattle.hierarchy.specs.Below.{parent_in, reach}
use Rattle.image.specs.Lookup.{component_index, label_of_tag, user_of_name}
use Rattle.labels.specs.Text.{text_byte, split, is_name, is_list, shape_rule}
use Rattle.labels.specs.Parse.{matches, place_of_name, read_names}
use Rattle.labels.specs.GroupTest.{group_test}
use Rattle.access.specs.Rights.{write_compartments_of, write_groups_of, rights_at, maximum_read_label}
use Rattle.access.specs.NewLabels.{session_groups_rule, row_inside, session_label_answer, row_label_answer, session_rule}
use Rattle.access.specs.Verdicts.{reads_all, writes_all, holds_compaccess, read_level_rule, read_groups_rule, read_compartments_rule, compaccess_reads, read_tests, reads_label, write_level_rule, write_groups_rule, write_compartments_rule, write_sets_rule, compaccess_writes, write_tests, writes_label, known_tag, may_read, may_write, readable_at_maximum, tree_sets_rule}
use Rattle.labels.specs.Label.{label_at}
use Rattle.sessions.specs.Session.{SessionMarks, lent_answer, session_rights}
use Rattle.sessions.specs.Opening.{refused, open_accepted, open_of}
use Rattle.sessions.specs.Changes.{label_change, row_label_change, set_label_of, set_row_label_of}
use Rattle.sample.specs.Cooperative.{cooperative}
use Rattle.sample.specs.TwoTables.{vaulted, bare, glazed, too_low, name_mark, text_glaze, text_crew}
use Rattle.sample.proofs.Sample.{sample-accepted}
use Rattle.sample.proofs.Mara.{mara}

-- ---- MARA
-- neither READ nor FULL
pub no-privileges : privileges (user_record cooperative 0) ≡ 0
unfolding cooperative number2 levels compartments groups users labels components first_block blocks_for record_offset record_at edition_of
no-privileges = refl

-- what she could ever read
pub record Ever : Type 0 where
  pub ever10 : readable_at_maximum cooperative 0 10 ≡ true
  pub ever30 : readable_at_maximum cooperative 0 30 ≡ true
  pub never20 : readable_at_maximum cooperative 0 20 ≡ false
  pub never0 : readable_at_maximum cooperative 0 0 ≡ false
  pub never77 : readable_at_maximum cooperative 0 77 ≡ false

pub ever : Ever
unfolding readable_at_maximum maximum_read_label may_read known_tag label_at reads_label read_tests read_level_rule read_groups_rule group_test read_compartments_rule compaccess_reads holds_compaccess reads_all rights_at write_compartments_of write_groups_of cooperative number2 number4 number8 has empty within meets collect first_bad levels compartments groups users labels components first_block blocks_for record_offset record_at records_of list_from parent_in class_first has_parent_in lineage_within_in lineage_in below_in label_of_tag edition_of groups_at joined profile_of reach
ever = record { ever10 = refl; ever30 = refl; never20 = refl; never0 = refl; never77 = refl }

-- ---- sessions that read all of that
pub record Verdicts (s : SessionMarks) : Type 0 where
  pub reads10 : may_read cooperative (session_rights cooperative s) 10 ≡ true
  pub reads30 : may_read cooperative (session_rights cooperative s) 30 ≡ true
  pub hides20 : may_read cooperative (session_rights cooperative s) 20 ≡ false
  pub hides0 : may_read cooperative (session_rights cooperative s) 0 ≡ false
  pub writes10 : may_write cooperative (session_rights cooperative s) 10 ≡ true
  pub writes30 : may_write cooperative (session_rights cooperative s) 30 ≡ false

pub mara-verdicts : Verdicts mara
unfolding may_read known_tag label_at reads_label read_tests read_level_rule read_groups_rule group_test read_compartments_rule compaccess_reads holds_compaccess reads_all may_write writes_all writes_label write_tests write_level_rule write_sets_rule write_groups_rule write_compartments_rule compaccess_writes rights_at write_compartments_of write_groups_of cooperative number2 number4 number8 has empty within meets collect first_bad levels compartments groups users labels components first_block blocks_for record_offset record_at records_of list_from parent_in class_first has_parent_in lineage_within_in lineage_in below_in label_of_tag edition_of groups_at joined tree_sets_rule profile_of reach
mara-verdicts = record { reads10 = refl; reads30 = refl; hides20 = refl; hides0 = refl; writes10 = refl; writes30 = refl }

pub vaulted-passes : lent_answer cooperative vaulted ≡ Ok tt
unfolding lent_answer session_rule session_label_answer row_label_answer row_inside session_groups_rule rights_at write_compartments_of write_groups_of cooperative number2 number4 number8 within meets collect levels compartments groups users labels components first_block blocks_for record_offset record_at records_of list_from parent_in class_first has_parent_in lineage_within_in lineage_in below_in edition_of groups_at joined profile_of reach
vaulted-passes = rw sample-accepted

pub vaulted-verdicts : Verdicts vaulted
unfolding may_read known_tag label_at reads_label read_tests read_level_rule read_groups_rule group_test read_compartments_rule compaccess_reads holds_compaccess reads_all may_write writes_all writes_label write_tests write_level_rule write_sets_rule write_groups_rule write_compartments_rule compaccess_writes rights_at write_compartments_of write_groups_of cooperative number2 number4 number8 has empty within meets collect first_bad levels compartments groups users labels components first_block blocks_for record_offset record_at records_of list_from parent_in class_first has_parent_in lineage_within_in lineage_in below_in label_of_tag edition_of groups_at joined tree_sets_rule profile_of reach
vaulted-verdicts = record { reads10 = refl; reads30 = refl; hides20 = refl; hides0 = refl; writes10 = refl; writes30 = refl }

-- ---- a session that reads less than she could ever read
pub bare-passes : lent_answer cooperative bare ≡ Ok tt
unfolding lent_answer session_rule session_label_answer row_label_answer row_inside session_groups_rule rights_at write_compartments_of write_groups_of cooperative number2 number4 number8 within meets collect levels compartments groups users labels components first_block blocks_for record_offset record_at records_of list_from parent_in class_first has_parent_in lineage_within_in lineage_in below_in edition_of groups_at joined profile_of reach
bare-passes = rw sample-accepted

pub glazed-passes : lent_answer cooperative glazed ≡ Ok tt
unfolding lent_answer session_rule session_label_answer row_label_answer row_inside session_groups_rule rights_at write_compartments_of write_groups_of cooperative number2 number4 number8 within meets collect levels compartments groups users labels components first_block blocks_for record_offset record_at records_of list_from parent_in class_first has_parent_in lineage_within_in lineage_in below_in edition_of groups_at joined profile_of reach
glazed-passes = rw sample-accepted

pub record LessVerdicts (s : SessionMarks) : Type 0 where
  pub hides10 : may_read cooperative (session_rights cooperative s) 10 ≡ false
  pub reads30 : may_read cooperative (session_rights cooperative s) 30 ≡ true
  pub hides20 : may_read cooperative (session_rights cooperative s) 20 ≡ false
  pub hides0 : may_read cooperative (session_rights cooperative s) 0 ≡ false

pub glazed-verdicts : LessVerdicts glazed
unfolding may_read known_tag label_at reads_label read_tests read_level_rule read_groups_rule group_test read_compartments_rule compaccess_reads holds_compaccess reads_all rights_at write_compartments_of write_groups_of cooperative number2 number4 number8 has empty within meets collect first_bad levels compartments groups users labels components first_block blocks_for record_offset record_at records_of list_from parent_in class_first has_parent_in lineage_within_in lineage_in below_in label_of_tag edition_of groups_at joined profile_of reach
glazed-verdicts = record { hides10 = refl; reads30 = refl; hides20 = refl; hides0 = refl }

-- ---- label changes
-- the row label CREW:KILN:DOCK does not lie inside CREW:GLAZE:NORTH
pub glaze-refused : set_label_of cooperative vaulted text_glaze ≡ (vaulted, Err RowLabelOutside)
unfolding set_label_of label_change session_label_answer row_inside session_groups_rule rights_at write_compartments_of write_groups_of cooperative number2 number4 number8 all text_byte small_letter folded name_byte name_in same_bytes first_bad has within meets collect levels compartments groups users labels components first_block blocks_for record_offset record_at component_index class_first records_of list_from parent_in has_parent_in lineage_within_in lineage_in below_in split is_name is_list shape_rule matches place_of_name read_names edition_of groups_at joined profile_of reach
glaze-refused = rw vaulted-passes

pub crew-accepted : set_row_label_of cooperative vaulted text_crew ≡ (bare, Ok tt)
unfolding set_row_label_of row_label_change row_label_answer rights_at write_compartments_of write_groups_of cooperative number2 number4 number8 all text_byte small_letter folded name_byte name_in same_bytes first_bad has within meets collect levels compartments groups users labels components first_block blocks_for record_offset record_at component_index class_first records_of list_from parent_in has_parent_in lineage_within_in lineage_in below_in split is_name is_list shape_rule matches place_of_name read_names edition_of groups_at joined profile_of reach
crew-accepted = rw vaulted-passes

-- CREW does
pub glaze-accepted : set_label_of cooperative bare text_glaze ≡ (glazed, Ok tt)
unfolding set_label_of label_change session_label_answer row_inside session_groups_rule rights_at write_compartments_of write_groups_of cooperative number2 number4 number8 all text_byte small_letter folded name_byte name_in same_bytes first_bad has within meets collect levels compartments groups users labels components first_block blocks_for record_offset record_at component_index class_first records_of list_from parent_in has_parent_in lineage_within_in lineage_in below_in split is_name is_list shape_rule matches place_of_name read_names edition_of groups_at joined profile_of reach
glaze-accepted = rw bare-passes

-- ---- refusals of an opening and of a lent session
pub mark-refused : open_of cooperative name_mark ≡ refused NoUser
unfolding open_of open_accepted cooperative number2 name_in same_bytes first_bad levels compartments groups users labels components first_block blocks_for record_offset record_at user_of_name edition_of
mark-refused = rw sample-accepted

pub too-low-refused : lent_answer cooperative too_low ≡ Err SessionRules
unfolding lent_answer session_rule session_label_answer row_label_answer row_inside session_groups_rule rights_at write_compartments_of write_groups_of cooperative number2 number4 number8 within meets collect levels compartments groups users labels components first_block blocks_for record_offset record_at records_of list_from parent_in class_first has_parent_in lineage_within_in lineage_in below_in edition_of groups_at joined profile_of reach
too-low-refused = rw sample-accepted
