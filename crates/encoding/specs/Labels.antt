-- A label in 48 bytes: byte 4 the level place, 8..15 compartments, 16..47 groups, little-endian sets. The other bytes are written as zero and not looked at.
use Rattle.std.specs.Prelude.{ℕ, ◌/◌, ◌%◌, ◌^◌, ◌<◌, List, [], ◌∷◌, ◌++◌}
use Rattle.fields.specs.Bytes.{byte_at, number8}
use Rattle.sets.specs.Groups.{width}
use Rattle.sets.specs.Words.{word_of}
use Rattle.header.specs.declared.edition.Edition.TheVariants.{Two}
use Rattle.records.specs.Fields.{groups_at}
use Rattle.labels.specs.Label.{Marks, marks}

-- the eight bytes of a word, the lowest first
abbrev pub bytes8 : ℕ → List ℕ
bytes8 w =
    w % 256 ∷ w / 256 % 256 ∷ w / 65536 % 256 ∷ w / 16777216 % 256 ∷ w / 4294967296 % 256 ∷ w / 1099511627776 % 256
    ∷ w / 281474976710656 % 256 ∷ w / 72057594037927936 % 256 ∷ []

-- the thirty-two bytes of a set of groups
unfoldable pub set_bytes : ℕ → List ℕ
set_bytes s = (bytes8 (word_of s 0) ++ bytes8 (word_of s 1)) ++ bytes8 (word_of s 2) ++ bytes8 (word_of s 3)

unfoldable pub label_bytes : Marks → List ℕ
label_bytes m = 0 ∷ 0 ∷ 0 ∷ 0 ∷ m.level ∷ 0 ∷ 0 ∷ 0 ∷ bytes8 m.compartments ++ set_bytes m.groups

-- each part of the label fits its bytes, as it does in every label of the code: a level of one byte, compartments of eight, and groups
pub record LabelFits (m : Marks) : Type 0 where
  pub level : m.level < 2 ^ 8
  pub compartments : m.compartments < 2 ^ 64
  pub groups : m.groups < 2 ^ width

-- the label that 48 bytes hold; the bytes that no field has are not looked at. The groups stand as in a record of edition 2
unfoldable pub label_in : List ℕ → Marks
label_in bytes = marks (byte_at bytes 4) (number8 bytes 8) (groups_at Two bytes 16)
