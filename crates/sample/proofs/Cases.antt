-- P1 to P16 of document 01: every question of the list gives what the document says. Computed. Assumes nothing.
use Rattle.std.proofs.Common.{Ok}
use Prim.Native.Nat.{ℕ}
use mathlib.Core.Path.{◌≡◌, refl, ◌∙◌}
use mathlib.Core.List.{List, [], ◌∷◌, map}
use Rattle.sets.specs.Words.{joined}
use Rattle.records.specs.Fields.{groups_at}
use Rattle.fields.specs.Bytes.{number2, number4, number8, all}
use Rattle.fields.specs.Names.{name_byte, name_in, same_bytes, small_letter, folded}
use Rattle.fields.specs.Scan.{first_bad, list_from}
use Rattle.sets.specs.Sets.{has, difference, empty, all_below, within, meets, collect}
use Rattle.header.specs.Layout.{levels, compartments, groups, labels, components, first_block, blocks_for, record_offset, record_at, class_first, edition_of, profile_of, records_of}
use Rattle.hierarchy.specs.Forest.{has_parent_in, lineage_within_in, lineage_in, below_in}
use Rattle.hierarchy.specs.Below.{parent_in, reach}
use Rattle.image.specs.Check.{check_of}
use Rattle.image.specs.Lookup.{component_index, label_of_tag}
use Rattle.labels.specs.Text.{text_byte, split, is_name, is_list, shape_rule}
use Rattle.labels.specs.Parse.{matches, place_of_name, read_names, read_text, of_text, parse_of}
use Rattle.printing.specs.Print.{entry_at, listed, list_text, section, text_of, accepted_answer, print_of}
use Rattle.labels.specs.Label.{label_exists, label_at}
use Rattle.dominance.specs.TwoLabels.{merge_levels, merge_sets, letters_rule, merged_label, merge_of}
use Rattle.labels.specs.GroupTest.{group_test}
use Rattle.access.specs.Rights.{write_compartments_of, write_groups_of, rights_at}
use Rattle.access.specs.NewLabels.{session_groups_rule, row_inside, session_label_answer}
use Rattle.access.specs.Verdicts.{reads_all, writes_all, holds_compaccess, read_level_rule, read_groups_rule, read_compartments_rule, compaccess_reads, read_tests, reads_label, write_level_rule, write_groups_rule, write_compartments_rule, write_sets_rule, compaccess_writes, write_tests, writes_label, known_tag, may_read, may_write, tree_sets_rule}
use Rattle.sessions.specs.Session.{lent_answer, session_rights}
use Rattle.sessions.specs.Opening.{session, open_of}
use Rattle.sessions.specs.Changes.{label_change, set_label_of}
use Rattle.sessions.specs.Asking.{may_read_of, may_write_of}
use Rattle.sample.specs.Pieces.{mara}
use Rattle.sample.specs.Cooperative.{cases_image, mara_opened}
use Rattle.sample.specs.Questions.{Question, of_row, new_label, merged, printed, Told, told_verdicts, told_change, on_label, on_merged, told_print, buffer, answer}
use Rattle.sample.specs.Cases.{Case, asked, proved}
use Rattle.sample.proofs.Sample.{cases-accepted}
use Rattle.sample.proofs.Mara.{mara-opens-cases, mara-passes-cases}

-- ---- of an image that is accepted, where MARA's session opens and passes 19, questions are answered without these checks
record Known (im : List ℕ) : Type 0 where
  accepted : check_of im ≡ Ok tt
  opens : open_of im mara ≡ session mara_opened
  passes : lent_answer im mara_opened ≡ Ok tt

abbrev shortly : List ℕ → Question → Told
shortly im (of_row tag) =
    let rights = session_rights im mara_opened in
    told_verdicts im tag (Ok (may_read im rights tag)) (Ok (may_write im rights tag))
shortly im (new_label text) = told_change (label_change im mara_opened text)
shortly im (merged text1 text2 letters) =
    on_label (of_text (read_text im text1))
    (λ a. on_label (of_text (read_text im text2)) (λ b. on_merged (merge_of a b letters) (λ m. told_print (accepted_answer im m buffer))))
shortly im (printed text) = on_label (of_text (read_text im text)) (λ m. told_print (accepted_answer im m buffer))

answer-shortly : (im : List ℕ) → Known im → (q : Question) → answer im q ≡ shortly im q
unfolding answer may_read_of may_write_of set_label_of parse_of print_of
answer-shortly im known (of_row tag) = rw (known.opens, known.passes)
answer-shortly im known (new_label text) = rw (known.opens, known.passes)
answer-shortly im known (merged text1 text2 letters) = rw known.accepted
answer-shortly im known (printed text) = rw known.accepted

cases-shortly : (cases : List Case) → map asked cases ≡ map (λ (c : Case). shortly cases_image c.question) cases
cases-shortly [] = refl
cases-shortly (c ∷ cases) = rw (answer-shortly cases_image cases-known c.question, cases-shortly cases)
  where
    cases-known : Known cases_image
    cases-known = record { accepted = cases-accepted; opens = mara-opens-cases; passes = mara-passes-cases }

-- ---- the proof
computed : map (λ (c : Case). shortly cases_image c.question) proved ≡ map (λ (c : Case). c.expected) proved
unfolding proved may_read may_write known_tag label_at reads_label read_tests read_level_rule read_groups_rule group_test read_compartments_rule compaccess_reads holds_compaccess reads_all writes_all writes_label write_tests write_level_rule write_sets_rule write_groups_rule write_compartments_rule compaccess_writes rights_at write_compartments_of write_groups_of cases_image number2 number4 number8 has difference empty within meets collect first_bad levels compartments groups labels components first_block blocks_for record_offset record_at records_of list_from parent_in class_first has_parent_in lineage_within_in lineage_in below_in label_of_tag label_change session_label_answer row_inside session_groups_rule all text_byte small_letter folded name_byte name_in same_bytes component_index split is_name is_list shape_rule matches place_of_name read_names all_below entry_at listed list_text section text_of label_exists accepted_answer merge_levels merge_sets letters_rule merged_label merge_of edition_of groups_at joined tree_sets_rule profile_of reach
computed = refl

pub all-cases : map asked proved ≡ map (λ (c : Case). c.expected) proved
all-cases = cases-shortly proved ∙ computed
