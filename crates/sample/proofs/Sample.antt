-- The two images of the sample co-operative are accepted: every rule is computed on them. Assumes nothing.
use Rattle.std.proofs.Common.{Ok}
use Prim.Native.Nat.{ℕ}
use mathlib.Core.Path.{◌≡◌, refl, ap, ◌∙◌}
use mathlib.Core.List.{List}
use lib.ListN.{length}
use Rattle.sets.specs.Words.{joined}
use Rattle.records.specs.Fields.{groups_at}
use Rattle.fields.specs.Bytes.{number2, number4, number8, all}
use Rattle.fields.specs.Names.{name_byte, name_in, name_rule, same_bytes, name_before}
use Rattle.fields.specs.Scan.{first_bad, list_from}
use Rattle.sets.specs.Sets.{has, all_below, within, meets, collect}
use Rattle.blocks.specs.Blocks.{length_rule, block_at, sum_a, sum_b, check_rule, place_rule, block_rule, block_count, first_bad_block}
use Rattle.header.specs.Layout.{levels, compartments, groups, users, labels, components, first_block, blocks_for, blocks_needed, record_offset, record_at, contents_of, kind_at, class_at, class_first, records_of, edition_of, profile_of}
use Rattle.header.specs.Header.{header_rule, fit_rule, counts_rule}
use Rattle.records.specs.Rules.{parent_rule, component_shape, new_name_rule, label_shape, user_levels_rule, user_compartments_rule, user_groups_rule, privileges_rule, user_shape, rule_of, layout_rule, first_bad_record, content_rule, other_name}
use Rattle.hierarchy.specs.Forest.{has_parent_in, ends_within_in, ends_in, first_ring_in, lineage_within_in, lineage_in, below_in}
use Rattle.hierarchy.specs.Below.{parent_in, below_sets, first_bad_sets, group_sets_in, record_sets, reach}
use Rattle.image.specs.Faults.{shown_as}
use Rattle.image.specs.Check.{fault_of, check_of}
use Rattle.image.specs.Walk.{first_bad_content, content_fault, counted_fault, found_fault}
use Rattle.image.proofs.Told.{found-lowest}
use Rattle.sample.specs.Cooperative.{cooperative, cases_image}

pub sample-length : length cooperative ≡ 2048
unfolding cooperative
sample-length = refl

-- the walk over each finds no fault, so there is none
both-sound : (found_fault cooperative ≡ Ok tt) × (found_fault cases_image ≡ Ok tt)
unfolding cooperative cases_image number2 number4 number8 all name_byte name_in name_rule same_bytes name_before first_bad has all_below within meets collect length_rule block_at sum_a sum_b check_rule place_rule block_rule block_count first_bad_block levels compartments groups users labels components first_block blocks_for blocks_needed record_offset record_at contents_of kind_at header_rule fit_rule class_at class_first parent_rule component_shape other_name new_name_rule label_shape user_levels_rule user_compartments_rule user_groups_rule privileges_rule user_shape rule_of records_of list_from layout_rule first_bad_record content_rule parent_in has_parent_in ends_within_in ends_in first_ring_in lineage_within_in lineage_in below_in below_sets first_bad_sets first_bad_content content_fault counted_fault found_fault edition_of counts_rule groups_at joined group_sets_in record_sets profile_of reach
both-sound = (refl, refl)

pub sound-accepted : (im : List ℕ) → found_fault im ≡ Ok tt → check_of im ≡ Ok tt
unfolding check_of fault_of
sound-accepted im e = ap shown_as (found-lowest im ∙ e)

pub sample-accepted : check_of cooperative ≡ Ok tt
sample-accepted = sound-accepted cooperative both-sound.0

pub cases-accepted : check_of cases_image ≡ Ok tt
cases-accepted = sound-accepted cases_image both-sound.1
