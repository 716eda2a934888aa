-- The maps of MARA's sessions, computed: of the tags 10, 20 and 30 she reads the first and the last, and with CREW:GLAZE:NORTH the last only. So
-- the map that she had before she gave KILN up is wrong then. Assumes nothing.
use mathlib.Core.Path.{◌≡◌, refl, ap, ◌∙◌}
use mathlib.Core.Bool.{true, false}
use mathlib.Core.List.{[], ◌∷◌}
use Rattle.sets.specs.Words.{joined}
use Rattle.fields.specs.Bytes.{number2, number4, number8}
use Rattle.fields.specs.Names.{same_bytes}
use Rattle.fields.specs.Scan.{list_from}
use Rattle.sets.specs.Sets.{has, empty, within, meets, collect}
use Rattle.header.specs.Layout.{levels, compartments, groups, users, labels, components, first_block, blocks_for, record_offset, record_at, class_first, edition_of, profile_of, records_of}
use Rattle.records.specs.Fields.{groups_at}
use Rattle.hierarchy.specs.Forest.{has_parent_in, lineage_within_in, lineage_in, below_in}
use Rattle.hierarchy.specs.Below.{parent_in, reach}
use Rattle.labels.specs.GroupTest.{group_test}
use Rattle.labels.specs.Label.{label_at}
use Rattle.access.specs.Rights.{write_compartments_of, write_groups_of, rights_at}
use Rattle.access.specs.Verdicts.{reads_all, holds_compaccess, read_level_rule, read_groups_rule, read_compartments_rule, compaccess_reads, read_tests, reads_label}
use Rattle.sessions.specs.Session.{session_rights}
use Rattle.maps.specs.Map.{reads_record, map_length, map_byte, map_of, map_rule}
use Rattle.sample.specs.Cooperative.{cooperative}
use Rattle.sample.specs.TwoTables.{glazed, mara_map, glazed_map}
use Rattle.sample.proofs.Mara.{mara}

pub mara-map : map_of cooperative (session_rights cooperative mara) ≡ mara_map
unfolding map_of map_byte map_length reads_record label_at list_from reads_label read_tests read_level_rule read_groups_rule group_test read_compartments_rule compaccess_reads holds_compaccess reads_all rights_at write_compartments_of write_groups_of cooperative number2 number4 number8 has empty within meets collect levels compartments groups users labels components first_block blocks_for record_offset record_at records_of parent_in class_first has_parent_in lineage_within_in lineage_in below_in edition_of groups_at joined profile_of reach
mara-map = refl

pub glazed-map : map_of cooperative (session_rights cooperative glazed) ≡ glazed_map
unfolding map_of map_byte map_length reads_record label_at list_from reads_label read_tests read_level_rule read_groups_rule group_test read_compartments_rule compaccess_reads holds_compaccess reads_all rights_at write_compartments_of write_groups_of cooperative number2 number4 number8 has empty within meets collect levels compartments groups users labels components first_block blocks_for record_offset record_at records_of parent_in class_first has_parent_in lineage_within_in lineage_in below_in edition_of groups_at joined profile_of reach
glazed-map = refl

pub mara-right : map_rule cooperative (session_rights cooperative mara) mara_map ≡ true
unfolding map_rule same_bytes
mara-right = rw mara-map

pub glazed-right : map_rule cooperative (session_rights cooperative glazed) glazed_map ≡ true
unfolding map_rule same_bytes
glazed-right = rw glazed-map

pub glazed-wrong : map_rule cooperative (session_rights cooperative glazed) mara_map ≡ false
unfolding map_rule same_bytes
glazed-wrong = rw glazed-map
