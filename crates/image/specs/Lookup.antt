-- What may be asked of an image: a component's name by class and place, a label's place by tag, a user's place by name.
use Rattle.std.specs.Prelude.{ℕ, ◌+◌, Bool, ◌&&◌, ◌||◌, List, eqb, ltb, Ok, Err}
use Rattle.std.specs.Borrow.{Bor}
use Rattle.fields.specs.Bytes.{part}
use Rattle.fields.specs.Names.{same_bytes}
use Rattle.fields.specs.Scan.{first_where}
use Rattle.header.specs.Layout.{levels, compartments, groups, users, labels, counts_of, class_first, component_name_offset, component_record, label_record, user_record}
use Rattle.records.specs.Fields.{component_name_length, tag_of, user_name}
use Rattle.refusals.specs.declared.Refusal.TheVariants.{NoComponent}
use Rattle.refusals.specs.Answers.{on_checked, or_refuse, Checked}
use Rattle.image.specs.Check.{check_of}

-- ---- a component's name, by class (1 level, 2 compartment, 3 group) and place in its class
-- the policy has such a component
unfoldable pub has_component : List ℕ → ℕ → ℕ → Bool
has_component im class place =
    eqb class 1 && ltb place (levels im) || eqb class 2 && ltb place (compartments im) || eqb class 3 && ltb place (groups im)

-- its place among all components
unfoldable pub component_index : List ℕ → ℕ → ℕ → ℕ
component_index im class place = class_first (counts_of im) class + place

-- where its name begins in the image, and how long it is
unfoldable pub name_offset : List ℕ → ℕ → ℕ → ℕ
name_offset im class place = component_name_offset im (component_index im class place)

unfoldable pub name_length : List ℕ → ℕ → ℕ → ℕ
name_length im class place = component_name_length (component_record im (component_index im class place))

-- how the look-up ends: 1, 2, 31 to 35, or 18 where the policy lacks the component
unfoldable pub name_answer : List ℕ → ℕ → ℕ → Checked
name_answer im class place = on_checked (check_of im) Err (or_refuse (has_component im class place) NoComponent (Ok tt))

-- a part of what was lent: where it begins in memory, and its bytes
abbrev pub Part : Type 0
Part = (ℕ × ℕ) × List ℕ

abbrev pub part_of : Bor (List ℕ) → ℕ → ℕ → Part
part_of lent offset n = ((lent.ref_ptr.0, offset + lent.ref_ptr.1), part lent.now offset n)

-- the part handed back: exactly the name's bytes, where they stand in the image; an empty part on a refusal
unfoldable pub name_part : Bor (List ℕ) → ℕ → ℕ → Part
name_part image class place =
    let im = image.now in
    on_checked (name_answer im class place) (λ r. part_of image 0 0) (part_of image (name_offset im class place) (name_length im class place))

-- ---- look-ups in an accepted image
-- the label record that carries the tag; the number of labels where none does
unfoldable pub label_of_tag : List ℕ → ℕ → ℕ
label_of_tag im tag = first_where (λ k. eqb (tag_of (label_record im k)) tag) (labels im) 0

-- the user record that has the name; the number of users where none has
unfoldable pub user_of_name : List ℕ → List ℕ → ℕ
user_of_name im name = first_where (λ u. same_bytes (user_name (user_record im u)) name) (users im) 0
