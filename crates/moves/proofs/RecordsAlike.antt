-- A record that is moved up holds what it held: field by field, each read as its edition has it. Assumes nothing.
use Prim.Native.Nat.{ℕ, ◌+◌, ◌≤◌, ◌<◌}
use mathlib.Core.Path.{◌≡◌, refl, ap, ◌∙◌}
use mathlib.Core.Bool.{cond}
use mathlib.Core.List.{List, ◌++◌}
use native.Mathlib.Nat.{zero-add}
use native.Mathlib.Omega.{arith}
use lib.Dec.{eqb}
use lib.ListN.{length, length-append, get_or-eq_default}
use lib.Seq.{take_at}
use Rattle.fields.specs.Bytes.{byte_at, part, number2, number8}
use Rattle.fields.proofs.Laws.{part_length}
use Rattle.header.specs.declared.edition.Edition.{Edition}
use Rattle.header.specs.declared.edition.Edition.TheVariants.{One, Two}
use Rattle.header.specs.declared.layout.Kind.{Kind}
use Rattle.header.specs.declared.layout.Kind.TheVariants.{Component, Label, User}
use Rattle.header.specs.Layout.{record_size}
use Rattle.records.specs.Fields.{class_of, component_name_field, numeric_form, parent_of, no_parent, component_end}
use Rattle.records.specs.Fields.{tag_of, label_level, label_compartments, label_groups}
use Rattle.records.specs.Fields.{user_name_field, privileges, maximum_level, minimum_level, default_level, row_level, user_end}
use Rattle.records.specs.Fields.{read_compartments, write_compartments, default_compartments, row_compartments}
use Rattle.records.specs.Fields.{read_groups, write_groups, default_groups, row_groups}
use Rattle.writing.specs.Laid.{bytes2, zeros}
use Rattle.writing.proofs.Sealed.{part-first, padded-byte, zeros-length}
use Rattle.writing.proofs.HeaderFields.{bytes2-number}
use Rattle.moves.specs.declared.target.Move.{Move}
use Rattle.moves.specs.declared.target.Move.TheVariants.{Up, Clear}
use Rattle.moves.specs.Moved.{wide_parent, wide_set, up_component, up_label, up_user, up_record, without_compaccess}
use Rattle.moves.proofs.Fronts.{part-next, number2-part, same-part, same_byte, same-number2, same-number4, same-number8, wide-length, wide-groups}

-- a user's privileges after a move
abbrev pub held_after : Move → ℕ → ℕ
held_after Up held = held
held_after Clear held = without_compaccess held

-- ---- the same in two records, the old one of edition e and the new one of edition f
-- class, the field of the name (so the name), numeric form; and the parent's place, or none as the edition has it
pub record ComponentAlike (e f : Edition) (old new : List ℕ) : Type 0 where
  pub class : class_of new ≡ class_of old
  pub name : component_name_field new ≡ component_name_field old
  pub numeric : numeric_form new ≡ numeric_form old
  pub parent : parent_of f new ≡ cond (eqb (parent_of e old) (no_parent e)) (no_parent f) (parent_of e old)

pub record LabelAlike (e f : Edition) (old new : List ℕ) : Type 0 where
  pub tag : tag_of new ≡ tag_of old
  pub level : label_level new ≡ label_level old
  pub compartments : label_compartments new ≡ label_compartments old
  pub groups : label_groups f new ≡ label_groups e old

-- the field of the name (so the name), privileges as the move leaves them, the four levels, the four sets of compartments and the four of groups
pub record UserAlike (change : ℕ → ℕ) (e f : Edition) (old new : List ℕ) : Type 0 where
  pub name : user_name_field new ≡ user_name_field old
  pub held : privileges new ≡ change (privileges old)
  pub level_maximum : maximum_level new ≡ maximum_level old
  pub level_minimum : minimum_level new ≡ minimum_level old
  pub level_default : default_level new ≡ default_level old
  pub level_row : row_level new ≡ row_level old
  pub compartments_read : read_compartments new ≡ read_compartments old
  pub compartments_write : write_compartments new ≡ write_compartments old
  pub compartments_default : default_compartments new ≡ default_compartments old
  pub compartments_row : row_compartments new ≡ row_compartments old
  pub groups_read : read_groups f new ≡ read_groups e old
  pub groups_write : write_groups f new ≡ write_groups e old
  pub groups_default : default_groups f new ≡ default_groups e old
  pub groups_row : row_groups f new ≡ row_groups e old

-- ---- a component
module _ (rec : List ℕ) (long : length rec ≡ record_size One Component) where
  abbrev parent_bytes : List ℕ
  parent_bytes = bytes2 (wide_parent (parent_of One rec))

  abbrev used : List ℕ
  used = part rec 0 34 ++ parent_bytes

  kept-length : length (part rec 0 34) ≡ 34
  kept-length = part_length rec 0 34 (omega arith)

  used-length : length used ≡ 36
  used-length = omega (arith, length-append (part rec 0 34) parent_bytes, kept-length)

  component-length : length (up_component rec) ≡ record_size Two Component
  unfolding up_component
  component-length = omega (arith, length-append used (zeros 4), used-length, zeros-length 4)

  component-front : part (up_component rec) 0 34 ≡ part rec 0 34
  unfolding up_component
  component-front =
      part-first used (zeros 4) 0 34 (omega (arith, used-length)) ∙ take_at (part rec 0 34) parent_bytes 34 kept-length

  parent-part : part (up_component rec) 34 2 ≡ parent_bytes
  unfolding up_component
  parent-part =
      part-first used (zeros 4) 34 2 (omega (arith, used-length)) ∙ part-next (part rec 0 34) parent_bytes 34 2 kept-length refl

  parent-wide : number2 (up_component rec) 34 ≡ wide_parent (parent_of One rec)
  unfolding number2
  parent-wide =
      number2-part (up_component rec) 34 ∙ ap (λ (s : List ℕ). number2 s 0) parent-part ∙ bytes2-number (wide_parent (parent_of One rec))

  pub component-alike : ComponentAlike One Two rec (up_component rec)
  component-alike =
      record {
        class = same_byte (up_component rec) rec 0 0 34 component-front 0 (omega arith);
        name = same-part (up_component rec) rec 0 0 34 component-front 1 31 (omega arith);
        numeric = same-number2 (up_component rec) rec 0 0 34 component-front 32 (omega arith);
        parent = parent-wide;
      }

  pub component-unused : (i : ℕ) → component_end Two ≤ i → byte_at (up_component rec) i ≡ 0
  unfolding up_component
  component-unused i h = padded-byte used 4 i ∙ get_or-eq_default used 0 (omega (arith, used-length))

-- ---- a label
module _ (rec : List ℕ) (long : length rec ≡ record_size One Label) where
  before-length : length (part rec 0 16) ≡ 16
  before-length = part_length rec 0 16 (omega arith)

  set-length : length (wide_set rec 16) ≡ 32
  set-length = wide-length rec 16 (omega arith)

  label-length : length (up_label rec) ≡ record_size Two Label
  unfolding up_label
  label-length = omega (arith, length-append (part rec 0 16) (wide_set rec 16), before-length, set-length)

  label-front : part (up_label rec) 0 16 ≡ part rec 0 16
  unfolding up_label
  label-front = take_at (part rec 0 16) (wide_set rec 16) 16 before-length

  label-set : part (up_label rec) 16 32 ≡ wide_set rec 16
  unfolding up_label
  label-set = part-next (part rec 0 16) (wide_set rec 16) 16 32 before-length set-length

  pub label-alike : LabelAlike One Two rec (up_label rec)
  label-alike =
      record {
        tag = same-number4 (up_label rec) rec 0 0 16 label-front 0 (omega arith);
        level = same_byte (up_label rec) rec 0 0 16 label-front 4 (omega arith);
        compartments = same-number8 (up_label rec) rec 0 0 16 label-front 8 (omega arith);
        groups = wide-groups rec 16 (omega arith) (up_label rec) 16 label-set;
      }

  -- bytes 5..7 too
  pub label-byte : (i : ℕ) → i < 16 → byte_at (up_label rec) i ≡ byte_at rec i
  label-byte i h = rw zero-add at (same_byte (up_label rec) rec 0 0 16 label-front i h)

-- ---- a user
module _ (rec : List ℕ) (long : length rec ≡ record_size One User) where
  -- up to the end of each set of groups
  abbrev upto-read : List ℕ
  upto-read = part rec 0 72 ++ wide_set rec 72

  abbrev upto-write : List ℕ
  upto-write = upto-read ++ wide_set rec 80

  abbrev upto-default : List ℕ
  upto-default = upto-write ++ wide_set rec 88

  start-length : length (part rec 0 72) ≡ 72
  start-length = part_length rec 0 72 (omega arith)

  wide_at : (k : ℕ) → k + 8 ≤ 128 → length (wide_set rec k) ≡ 32
  wide_at k h = wide-length rec k (omega arith)

  read_length : length upto-read ≡ 104
  read_length = omega (arith, length-append (part rec 0 72) (wide_set rec 72), start-length, wide_at 72 (omega arith))

  write-length : length upto-write ≡ 136
  write-length = omega (arith, length-append upto-read (wide_set rec 80), read_length, wide_at 80 (omega arith))

  default-length : length upto-default ≡ 168
  default-length = omega (arith, length-append upto-write (wide_set rec 88), write-length, wide_at 88 (omega arith))

  user-length : length (up_user rec) ≡ record_size Two User
  unfolding up_user
  user-length = omega (arith, length-append upto-default (wide_set rec 96), default-length, wide_at 96 (omega arith))

  in-default : (k n : ℕ) → k + n ≤ 168 → part (up_user rec) k n ≡ part upto-default k n
  unfolding up_user
  in-default k n h = part-first upto-default (wide_set rec 96) k n (omega (arith, default-length))

  in-write : (k n : ℕ) → k + n ≤ 136 → part (up_user rec) k n ≡ part upto-write k n
  in-write k n h = in-default k n (omega arith) ∙ part-first upto-write (wide_set rec 88) k n (omega (arith, write-length))

  in-read : (k n : ℕ) → k + n ≤ 104 → part (up_user rec) k n ≡ part upto-read k n
  in-read k n h = in-write k n (omega arith) ∙ part-first upto-read (wide_set rec 80) k n (omega (arith, read_length))

  user-front : part (up_user rec) 0 72 ≡ part rec 0 72
  user-front = in-read 0 72 (omega arith) ∙ take_at (part rec 0 72) (wide_set rec 72) 72 start-length

  read_set : part (up_user rec) 72 32 ≡ wide_set rec 72
  read_set = in-read 72 32 (omega arith) ∙ part-next (part rec 0 72) (wide_set rec 72) 72 32 start-length (wide_at 72 (omega arith))

  write-set : part (up_user rec) 104 32 ≡ wide_set rec 80
  write-set = in-write 104 32 (omega arith) ∙ part-next upto-read (wide_set rec 80) 104 32 read_length (wide_at 80 (omega arith))

  default-set : part (up_user rec) 136 32 ≡ wide_set rec 88
  default-set = in-default 136 32 (omega arith) ∙ part-next upto-write (wide_set rec 88) 136 32 write-length (wide_at 88 (omega arith))

  row-set : part (up_user rec) 168 32 ≡ wide_set rec 96
  unfolding up_user
  row-set = part-next upto-default (wide_set rec 96) 168 32 default-length (wide_at 96 (omega arith))

  number-kept : (i : ℕ) → i + 8 ≤ 72 → number8 (up_user rec) (0 + i) ≡ number8 rec (0 + i)
  number-kept i h = same-number8 (up_user rec) rec 0 0 72 user-front i h

  byte-kept : (i : ℕ) → i < 72 → byte_at (up_user rec) (0 + i) ≡ byte_at rec (0 + i)
  byte-kept i h = same_byte (up_user rec) rec 0 0 72 user-front i h

  pub user-alike : UserAlike (held_after Up) One Two rec (up_user rec)
  user-alike =
      record {
        name = same-part (up_user rec) rec 0 0 72 user-front 0 31 (omega arith);
        held = byte-kept 31 (omega arith);
        level_maximum = byte-kept 32 (omega arith);
        level_minimum = byte-kept 33 (omega arith);
        level_default = byte-kept 34 (omega arith);
        level_row = byte-kept 35 (omega arith);
        compartments_read = number-kept 40 (omega arith);
        compartments_write = number-kept 48 (omega arith);
        compartments_default = number-kept 56 (omega arith);
        compartments_row = number-kept 64 (omega arith);
        groups_read = wide-groups rec 72 (omega arith) (up_user rec) 72 read_set;
        groups_write = wide-groups rec 80 (omega arith) (up_user rec) 104 write-set;
        groups_default = wide-groups rec 88 (omega arith) (up_user rec) 136 default-set;
        groups_row = wide-groups rec 96 (omega arith) (up_user rec) 168 row-set;
      }

  -- bytes 36..39 too, and nothing stands after the sets
  pub user-byte : (i : ℕ) → i < 72 → byte_at (up_user rec) i ≡ byte_at rec i
  user-byte i h = rw zero-add at (byte-kept i h)

  pub user-unused : (i : ℕ) → user_end Two ≤ i → byte_at (up_user rec) i ≡ 0
  user-unused i h = get_or-eq_default (up_user rec) 0 (omega (arith, user-length))

-- ---- a record of any kind has the size that edition 2 gives it
pub up-length : (kind : Kind) (rec : List ℕ) → length rec ≡ record_size One kind → length (up_record kind rec) ≡ record_size Two kind
up-length Component = component-length
up-length Label = label-length
up-length User = user-length
