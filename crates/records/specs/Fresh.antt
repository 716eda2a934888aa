-- The filter by which a component's name is known to be new in its class, and what holds of it between two places.
use Rattle.std.specs.Prelude.{◌≡◌, ℕ, ◌+◌, ◌-◌, ◌*◌, ◌/◌, ◌%◌, ◌^◌, ◌<◌, ◌≤◌, Bool, true, ◌&&◌, List, length, ◌==◌, slice_index}
use Rattle.fields.specs.Bytes.{number8}
use Rattle.fields.specs.Names.{name_rule}
use Rattle.sets.specs.Sets.{none, one, union, within}
use Rattle.header.specs.declared.layout.Kind.TheVariants.{Component}
use Rattle.header.specs.declared.counts.Counts.{Counts}
use Rattle.header.specs.Layout.{Fitted, records_of}
use Rattle.records.specs.declared.fresh.Field.{Field}
use Rattle.records.specs.declared.fresh.Source.{Source}
use Rattle.records.specs.declared.fresh.Source.TheVariants.{Image, Run}
use Rattle.records.specs.Fields.{component_name_field}
use Rattle.records.specs.Rules.{record_in, run_record, run_records, class_start}

-- ---- the key of a name
-- a sum in a word of 64 bits
abbrev pub wrapped : ℕ → ℕ → ℕ
wrapped a b = (a + b) % 2 ^ 64

-- of the words at bytes 2, 10, 18 and 24 of the record, which are the 30 bytes after the name's length, a + 3b + 4(c + 2d); then the remainder
-- by 524,287, a prime
unfoldable pub name_key : List ℕ → ℕ
name_key rec =
    let b = number8 rec 10 in
    let d = number8 rec 24 in
    let low = wrapped (number8 rec 2) (wrapped b (wrapped b b)) in
    let rest = wrapped (number8 rec 18) (wrapped d d) in
    let double = wrapped rest rest in
    wrapped low (wrapped double double) % 524287

-- ---- the filter: 128 words, of which a key has two bits of one word
-- the word of a key, and its bits there
abbrev pub word_of_key : ℕ → ℕ
word_of_key key = key % 128

unfoldable pub bits_of_key : ℕ → ℕ
bits_of_key key = union (union none (one (key / 128 % 64))) (one (key / 8192 % 64))

-- both bits of the key are set
unfoldable pub marked : List ℕ → ℕ → Bool
marked filter key = within (bits_of_key key) (slice_index filter (word_of_key key))

-- the key is marked now, and each that was marked before still is
pub record MarkedToo (key : ℕ) (before after : List ℕ) : Type 0 where
  pub here : marked after key ≡ true
  pub still : (other : ℕ) → marked before other ≡ true → marked after other ≡ true

-- ---- the words of a name's field
-- the same four words, as code keeps those of one record
abbrev pub field_of : List ℕ → Field
field_of rec = record { a = number8 rec 2; b = number8 rec 10; c = number8 rec 18; d = number8 rec 24 }

-- the record has these words: the 30 bytes of its name's field are equal to those of the record that they are from
unfoldable pub alike : Field → List ℕ → Bool
alike field rec =
    (number8 rec 24 == field.d) && number8 rec 18 == field.c && number8 rec 10 == field.b && number8 rec 2 == field.a

-- ---- component records, of an image or of a run
abbrev pub components_in : Source → List ℕ → List (List ℕ)
components_in Image bytes = records_of bytes Component
components_in Run bytes = run_records 40 bytes

-- what holds them has them whole
abbrev pub Whole : Source → List ℕ → Type 0
Whole Image bytes = Fitted bytes
Whole Run bytes = length bytes % 40 ≡ 0

-- up to place `to` every name keeps the rule of its field, so that equal names are equal bytes
pub record NamesKept (records : List (List ℕ)) (to : ℕ) : Type 0 where
  pub each : (j : ℕ) → j < to → name_rule (component_name_field (record_in records j)) ≡ true

-- each component from place `start` up to place i is marked
pub record MarkedFrom (records : List (List ℕ)) (start i : ℕ) (filter : List ℕ) : Type 0 where
  pub each : (j : ℕ) → start ≤ j → j < i → marked filter (name_key (record_in records j)) ≡ true

-- each component of the class at place i, up to that place, is marked
abbrev pub Marked : Counts → List (List ℕ) → ℕ → List ℕ → Type 0
Marked n records i filter = MarkedFrom records (class_start n i) i filter

-- the run begins with the records of the places from `from` up to `to`
pub record HoldsFrom (records : List (List ℕ)) (from to : ℕ) (run : List ℕ) : Type 0 where
  pub long : 40 * (to - from) ≤ length run
  pub same : (q : ℕ) → q < to - from → run_record 40 run q ≡ record_in records (from + q)
