-- MARA's session in the sample co-operative, computed: it opens in both images, passes 19, and takes a new label. So the laws on
-- sessions speak of sessions that there are. Assumes nothing.
use Rattle.std.proofs.Common.{Ok}
use mathlib.Core.Path.{◌≡◌}
use mathlib.Core.List.{◌∷◌, ◌++◌}
use Rattle.sets.specs.Words.{joined}
use Rattle.records.specs.Fields.{groups_at}
use Rattle.fields.specs.Bytes.{number2, number4, number8, all}
use Rattle.fields.specs.Names.{name_byte, name_in, same_bytes, small_letter, folded}
use Rattle.fields.specs.Scan.{first_bad, list_from}
use Rattle.sets.specs.Sets.{has, within, meets, collect}
use Rattle.header.specs.Layout.{levels, compartments, groups, users, labels, components, first_block, blocks_for, record_offset, record_at, class_first, edition_of, profile_of, records_of}
use Rattle.hierarchy.specs.Forest.{has_parent_in, lineage_within_in, lineage_in, below_in}
use Rattle.hierarchy.specs.Below.{parent_in, reach}
use Rattle.image.specs.Lookup.{component_index, user_of_name}
use Rattle.labels.specs.Text.{colon, text_byte, split, is_name, is_list, shape_rule}
use Rattle.labels.specs.Parse.{matches, place_of_name, read_names}
use Rattle.access.specs.Rights.{write_compartments_of, write_groups_of, rights_at}
use Rattle.access.specs.NewLabels.{session_groups_rule, row_inside, session_label_answer, row_label_answer, session_rule}
use Rattle.sessions.specs.Session.{lent_answer}
use Rattle.sessions.specs.Opening.{session, default_label, default_row_label, default_session, open_accepted, open_of}
use Rattle.sessions.specs.Changes.{with_label, label_change, set_label_of}
use Rattle.sample.specs.Pieces.{vault, kiln, dock, mara as name}
use Rattle.sample.specs.Cooperative.{cooperative, cases_image}
use Rattle.labels.specs.Label.{marks}
use Rattle.sample.proofs.Sample.{sample-accepted, cases-accepted}
pub use Rattle.sample.specs.Cooperative.{mara_opened as mara}

-- ---- in both images
opens-in-both : (open_of cooperative name ≡ session mara) × (open_of cases_image name ≡ session mara)
unfolding open_of open_accepted default_session default_label default_row_label cooperative cases_image number2 number4 number8 name_in same_bytes first_bad levels compartments groups users labels components first_block blocks_for record_offset record_at user_of_name edition_of groups_at joined
opens-in-both = (rw sample-accepted, rw cases-accepted)

pub mara-opens : open_of cooperative name ≡ session mara
mara-opens = opens-in-both.0

pub mara-opens-cases : open_of cases_image name ≡ session mara
mara-opens-cases = opens-in-both.1

passes-in-both : (lent_answer cooperative mara ≡ Ok tt) × (lent_answer cases_image mara ≡ Ok tt)
unfolding lent_answer session_rule session_label_answer row_label_answer row_inside session_groups_rule rights_at write_compartments_of write_groups_of cooperative cases_image number2 number4 number8 within meets collect levels compartments groups users labels components first_block blocks_for record_offset record_at records_of list_from parent_in class_first has_parent_in lineage_within_in lineage_in below_in edition_of groups_at joined profile_of reach
passes-in-both = (rw sample-accepted, rw cases-accepted)

pub mara-passes : lent_answer cooperative mara ≡ Ok tt
mara-passes = passes-in-both.0

pub mara-passes-cases : lent_answer cases_image mara ≡ Ok tt
mara-passes-cases = passes-in-both.1

-- ---- in the report's
-- P10 holds there too: the calls of HiddenInstance.antt have it
pub p10 : set_label_of cooperative mara (vault ++ colon ∷ kiln ++ colon ∷ dock) ≡ (with_label mara (marks 2 1 4), Ok tt)
unfolding set_label_of label_change session_label_answer row_inside session_groups_rule rights_at write_compartments_of write_groups_of cooperative number2 number4 number8 all text_byte small_letter folded name_byte name_in same_bytes first_bad has within meets collect levels compartments groups users labels components first_block blocks_for record_offset record_at component_index class_first records_of list_from parent_in has_parent_in lineage_within_in lineage_in below_in split is_name is_list shape_rule matches place_of_name read_names edition_of groups_at joined profile_of reach
p10 = rw mara-passes
