-- What the records hold, field by field, from the record's first byte. Where a field stands and how wide it is may differ by edition.
use Rattle.std.specs.Prelude.{ℕ, zero, suc, ◌+◌, Bool, List, [], ◌∷◌}
use Rattle.fields.specs.Bytes.{byte_at, part, number2, number4, number8}
use Rattle.fields.specs.Names.{name_in}
use Rattle.sets.specs.Sets.{has}
use Rattle.sets.specs.Words.{joined}
use Rattle.header.specs.declared.edition.Edition.{Edition}
use Rattle.header.specs.Layout.{by_edition}

-- ---- a set of groups: one word of eight bytes, in edition 2 four, the lowest places first
abbrev pub words_at : ℕ → List ℕ → ℕ → List ℕ
words_at zero rec k = []
words_at (suc n) rec k = number8 rec k ∷ words_at n rec (k + 8)

unfoldable pub groups_at : Edition → List ℕ → ℕ → ℕ
groups_at edition rec k = joined (words_at (by_edition edition 1 4) rec k)

-- ---- a component: class, name, numeric form, parent's place among groups or none
abbrev pub class_of : List ℕ → ℕ
class_of rec = byte_at rec 0

abbrev pub component_name_field : List ℕ → List ℕ
component_name_field rec = part rec 1 31

abbrev pub component_name_length : List ℕ → ℕ
component_name_length rec = byte_at rec 1

abbrev pub component_name : List ℕ → List ℕ
component_name rec = name_in (component_name_field rec)

abbrev pub numeric_form : List ℕ → ℕ
numeric_form rec = number2 rec 32

-- byte 34, in edition 2 bytes 34 and 35
abbrev pub parent_of : Edition → List ℕ → ℕ
parent_of edition rec = by_edition edition (byte_at rec 34) (number2 rec 34)

-- what stands there for none
abbrev pub no_parent : Edition → ℕ
no_parent edition = by_edition edition 255 65535

-- the bytes from there on are unused
abbrev pub component_end : Edition → ℕ
component_end edition = by_edition edition 35 36

-- ---- a label: tag, level place, compartments and groups as sets
abbrev pub tag_of : List ℕ → ℕ
tag_of rec = number4 rec 0

abbrev pub label_level : List ℕ → ℕ
label_level rec = byte_at rec 4

abbrev pub label_compartments : List ℕ → ℕ
label_compartments rec = number8 rec 8

abbrev pub label_groups : Edition → List ℕ → ℕ
label_groups edition rec = groups_at edition rec 16

-- ---- a user: name, privileges, four levels, four compartment sets and four group sets
abbrev pub user_name_field : List ℕ → List ℕ
user_name_field rec = part rec 0 31

abbrev pub user_name : List ℕ → List ℕ
user_name rec = name_in (user_name_field rec)

abbrev pub privileges : List ℕ → ℕ
privileges rec = byte_at rec 31

-- privileges as a set: READ, FULL and COMPACCESS, bits 1, 2 and 4 of the byte, are places 0, 1 and 2 of it
abbrev pub place_of_read : ℕ
place_of_read = 0

abbrev pub place_of_full : ℕ
place_of_full = 1

abbrev pub place_of_compaccess : ℕ
place_of_compaccess = 2

-- COMPACCESS is among them
abbrev pub has_compaccess : ℕ → Bool
has_compaccess held = has held place_of_compaccess

abbrev pub maximum_level : List ℕ → ℕ
maximum_level rec = byte_at rec 32

abbrev pub minimum_level : List ℕ → ℕ
minimum_level rec = byte_at rec 33

abbrev pub default_level : List ℕ → ℕ
default_level rec = byte_at rec 34

abbrev pub row_level : List ℕ → ℕ
row_level rec = byte_at rec 35

abbrev pub read_compartments : List ℕ → ℕ
read_compartments rec = number8 rec 40

abbrev pub write_compartments : List ℕ → ℕ
write_compartments rec = number8 rec 48

abbrev pub default_compartments : List ℕ → ℕ
default_compartments rec = number8 rec 56

abbrev pub row_compartments : List ℕ → ℕ
row_compartments rec = number8 rec 64

abbrev pub read_groups : Edition → List ℕ → ℕ
read_groups edition rec = groups_at edition rec 72

abbrev pub write_groups : Edition → List ℕ → ℕ
write_groups edition rec = groups_at edition rec (by_edition edition 80 104)

abbrev pub default_groups : Edition → List ℕ → ℕ
default_groups edition rec = groups_at edition rec (by_edition edition 88 136)

abbrev pub row_groups : Edition → List ℕ → ℕ
row_groups edition rec = groups_at edition rec (by_edition edition 96 168)

-- the bytes from there on are unused
abbrev pub user_end : Edition → ℕ
user_end edition = by_edition edition 104 200
