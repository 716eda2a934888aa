-- What the two moves make of an accepted image of edition 1. The move up: the image in the layouts of edition 2; tags, names, numeric forms, places,
-- profile and privileges stay. The clearing move: the image in edition 1, without COMPACCESS; all else stays.
use Rattle.std.specs.Prelude.{ℕ, cond, List, ◌∷◌, ◌++◌, map, eqb, drop}
use Rattle.fields.specs.Bytes.{part}
use Rattle.sets.specs.Sets.{one, difference}
use Rattle.header.specs.declared.edition.Edition.{Edition}
use Rattle.header.specs.declared.edition.Edition.TheVariants.{One, Two}
use Rattle.header.specs.declared.layout.Kind.{Kind}
use Rattle.header.specs.declared.layout.Kind.TheVariants.{Component, Label, User}
use Rattle.header.specs.declared.counts.Counts.{Counts}
use Rattle.header.specs.Layout.{profile_of, levels, compartments, groups, records_of}
use Rattle.records.specs.Fields.{parent_of, no_parent, privileges, place_of_compaccess}
use Rattle.writing.specs.Laid.{bytes2, zeros, counts_from, image_of}
use Rattle.moves.specs.declared.target.Move.{Move}
use Rattle.moves.specs.declared.target.Move.TheVariants.{Up, Clear}

-- ---- the move up: the records
-- a parent's place, or none as edition 2 has it
abbrev pub wide_parent : ℕ → ℕ
wide_parent parent = cond (eqb parent (no_parent One)) (no_parent Two) parent

-- class, name and numeric form as they were; the parent in two bytes; four bytes unused
unfoldable pub up_component : List ℕ → List ℕ
up_component rec = part rec 0 34 ++ bytes2 (wide_parent (parent_of One rec)) ++ zeros 4

-- a set of groups from byte k on, and no group past its 64th
abbrev pub wide_set : List ℕ → ℕ → List ℕ
wide_set rec k = part rec k 8 ++ zeros 24

-- tag, level and compartments as they were
unfoldable pub up_label : List ℕ → List ℕ
up_label rec = part rec 0 16 ++ wide_set rec 16

-- name, privileges, levels and compartments as they were; the four sets of groups
unfoldable pub up_user : List ℕ → List ℕ
up_user rec = part rec 0 72 ++ wide_set rec 72 ++ wide_set rec 80 ++ wide_set rec 88 ++ wide_set rec 96

abbrev pub up_record : Kind → List ℕ → List ℕ
up_record Component = up_component
up_record Label = up_label
up_record User = up_user

-- ---- the clearing move: the records
-- a user's privileges without COMPACCESS
unfoldable pub without_compaccess : ℕ → ℕ
without_compaccess held = difference held (one place_of_compaccess)

-- every byte as it was but for the privileges
unfoldable pub clear_user : List ℕ → List ℕ
clear_user rec = part rec 0 31 ++ without_compaccess (privileges rec) ∷ drop 32 rec

abbrev pub clear_record : Kind → List ℕ → List ℕ
clear_record Component rec = rec
clear_record Label rec = rec
clear_record User rec = clear_user rec

-- ---- either move
-- the edition of what it writes
abbrev pub edition_after : Move → Edition
edition_after Up = Two
edition_after Clear = One

abbrev pub new_record : Move → Kind → List ℕ → List ℕ
new_record Up = up_record
new_record Clear = clear_record

abbrev pub new_records : Move → List ℕ → Kind → List (List ℕ)
new_records move im kind = map (new_record move kind) (records_of im kind)

-- the profile, and as many levels, compartments and groups as there were
abbrev pub new_counts : Move → List ℕ → Counts
new_counts move im = counts_from (edition_after move) (profile_of im) (levels im) (compartments im) (groups im)

unfoldable pub new_image : Move → List ℕ → List ℕ
new_image move im = image_of (new_counts move im) (new_records move im)
