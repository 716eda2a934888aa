-- The counts in an image's header, and where by them the blocks and records stand. The crates above this one name a record by its kind and
-- its place among those of the kind.
use Rattle.std.specs.Prelude.{ℕ, ◌+◌, ◌-◌, ◌*◌, ◌/◌, ◌%◌, ◌≤◌, ◌<◌, min, ◌≡◌, cond, List, eqb, ltb, length}
use Rattle.fields.specs.Bytes.{byte_at, part, number2}
use Rattle.fields.specs.Scan.{list_from}
use Rattle.header.specs.declared.edition.Edition.{Edition}
use Rattle.header.specs.declared.edition.Edition.TheVariants.{One, Two}
use Rattle.header.specs.declared.profile.Profile.{Profile}
use Rattle.header.specs.declared.profile.Profile.TheVariants.{Tree, Release}
use Rattle.header.specs.declared.counts.Counts.{Counts}
use Rattle.header.specs.declared.layout.Kind.{Kind}
use Rattle.header.specs.declared.layout.Kind.TheVariants.{Component, Label, User}
use Rattle.header.specs.declared.layout.Shape.{Shape}
use Rattle.header.specs.declared.layout.Contents.{Contents}
use Rattle.header.specs.declared.walk.RecordAt.{RecordAt}

-- ---- block 0: the edition, byte 4
-- A header whose edition is neither 1 nor 2 is at fault (`header_rule`); its counts are read as those of edition 1.
abbrev pub edition_named : ℕ → Edition
edition_named byte = cond (eqb byte 2) Two One

unfoldable pub edition_of : List ℕ → Edition
edition_of im = edition_named (byte_at im 4)

-- ---- block 0: the profile, byte 12
-- A header whose profile is neither 0 nor 1 is at fault (`header_rule`); it is read as 0.
abbrev pub profile_named : ℕ → Profile
profile_named byte = cond (eqb byte 1) Release Tree

unfoldable pub profile_of : List ℕ → Profile
profile_of im = profile_named (byte_at im 12)

-- what differs between the profiles
abbrev pub by_profile : {A : Type 0} → Profile → A → A → A
by_profile Tree tree release = tree
by_profile Release tree release = release

-- a number that differs between the editions
abbrev pub by_edition : Edition → ℕ → ℕ → ℕ
by_edition One one two = one
by_edition Two one two = two

-- ---- block 0: the counts
unfoldable pub levels : List ℕ → ℕ
levels im = byte_at im 5

unfoldable pub compartments : List ℕ → ℕ
compartments im = byte_at im 6

-- byte 7, in edition 2 bytes 14 and 15
unfoldable pub groups : List ℕ → ℕ
groups im = by_edition (edition_of im) (byte_at im 7) (number2 im 14)

unfoldable pub users : List ℕ → ℕ
users im = number2 im 8

unfoldable pub labels : List ℕ → ℕ
labels im = number2 im 10

unfoldable pub components : List ℕ → ℕ
components im = levels im + compartments im + groups im

-- ---- what the rules of records ask of the header: the edition, the profile, and how many components there are of each class (`Counts`)
abbrev pub counts_of : List ℕ → Counts
counts_of im = record { edition = edition_of im; profile = profile_of im; levels = levels im; compartments = compartments im; groups = groups im }

-- ---- classes: 1 level, 2 compartment, 3 group. Levels come first, then compartments, then groups
-- how many components a class has
abbrev pub class_count : Counts → ℕ → ℕ
class_count n class = cond (eqb class 1) n.levels (cond (eqb class 2) n.compartments n.groups)

-- the place of the first component of a class, among all components
unfoldable pub class_first : Counts → ℕ → ℕ
class_first n class = cond (eqb class 1) 0 (cond (eqb class 2) n.levels (n.levels + n.compartments))

-- the class that the counts put at place i among all components
unfoldable pub class_at : Counts → ℕ → ℕ
class_at n i = cond (ltb i n.levels) 1 (cond (ltb i (n.levels + n.compartments)) 2 3)

-- ---- the kinds: components, labels, users, and the numbers that a kind's shape is made of. Of a component's 40 bytes code and laws also speak
-- by that number, as it is the same in both editions
abbrev pub kind_byte : Kind → ℕ
kind_byte Component = 67
kind_byte Label = 76
kind_byte User = 85

-- how many bytes a record has
abbrev pub record_size : Edition → Kind → ℕ
record_size edition Component = 40
record_size edition Label = by_edition edition 24 48
record_size edition User = by_edition edition 128 200

-- how many records a block holds
abbrev pub capacity_of : Edition → Kind → ℕ
capacity_of edition Component = 12
capacity_of edition Label = by_edition edition 21 10
capacity_of edition User = by_edition edition 3 2

-- how many records the counts name
abbrev pub count_of : List ℕ → Kind → ℕ
count_of im Component = components im
count_of im Label = labels im
count_of im User = users im

-- ---- blocks: the header, then each kind packed
-- how many blocks a kind's records need
unfoldable pub blocks_for : ℕ → ℕ → ℕ
blocks_for capacity count = (count + (capacity - 1)) / capacity

abbrev pub blocks_of : List ℕ → Kind → ℕ
blocks_of im kind = blocks_for (capacity_of (edition_of im) kind) (count_of im kind)

unfoldable pub first_block : List ℕ → Kind → ℕ
first_block im Component = 1
first_block im Label = 1 + blocks_of im Component
first_block im User = 1 + blocks_of im Component + blocks_of im Label

unfoldable pub blocks_needed : List ℕ → ℕ
blocks_needed im = 1 + blocks_of im Component + blocks_of im Label + blocks_of im User

-- the length is what the counts need
abbrev pub Fitted : List ℕ → Type 0
Fitted im = length im ≡ 512 * blocks_needed im

-- ---- a kind's shape: its first block, the size of a record, how many a block holds, how many there are
abbrev pub shape_of : List ℕ → Kind → Shape
shape_of im kind =
    record
    { first = first_block im kind; size = record_size (edition_of im) kind; capacity = capacity_of (edition_of im) kind; count = count_of im kind }

-- a block holds one record or more, no more than its byte 1 can tell, and has room for them
pub record Roomy (shape : Shape) : Type 0 where
  pub some : 1 ≤ shape.capacity
  pub few : shape.capacity ≤ 255
  pub room : 4 + shape.size * shape.capacity ≤ 510

-- what code is handed as the shape of a kind
pub record Shaped (im : List ℕ) (kind : Kind) (shape : Shape) : Type 0 where
  pub is : shape ≡ shape_of im kind
  pub roomy : Roomy shape
  pub few : shape.count < 131072

-- ---- where the record at place i stands: its block, its place there, and its first byte
abbrev pub record_block : Shape → ℕ → ℕ
record_block shape i = shape.first + i / shape.capacity

abbrev pub record_slot : Shape → ℕ → ℕ
record_slot shape i = i % shape.capacity

unfoldable pub record_offset : Shape → ℕ → ℕ
record_offset shape i = 512 * record_block shape i + 4 + shape.size * record_slot shape i

unfoldable pub record_at : List ℕ → Kind → ℕ → List ℕ
record_at im kind i = part im (record_offset (shape_of im kind) i) (record_size (edition_of im) kind)

abbrev pub component_record : List ℕ → ℕ → List ℕ
component_record im i = record_at im Component i

abbrev pub label_record : List ℕ → ℕ → List ℕ
label_record im k = record_at im Label k

abbrev pub user_record : List ℕ → ℕ → List ℕ
user_record im u = record_at im User u

-- all records of a kind, in order
unfoldable pub records_of : List ℕ → Kind → List (List ℕ)
records_of im kind = list_from (record_at im kind) (count_of im kind) 0

-- a walk stands at the record of place j: where the record begins, and how many its block has room for from it on
pub record Standing (shape : Shape) (j : ℕ) (here : RecordAt) : Type 0 where
  pub begins : here.at ≡ record_offset shape j
  pub more : here.left ≡ shape.capacity - record_slot shape j

-- the records from `from` up to `to` stand in one block
abbrev pub OneRun : List ℕ → Kind → ℕ → ℕ → Type 0
OneRun im kind from to = to ≤ from + (capacity_of (edition_of im) kind - record_slot (shape_of im kind) from)

-- the same, and the first of them begins at `first`
pub record OneBlock (im : List ℕ) (kind : Kind) (first from to : ℕ) : Type 0 where
  pub begins : first ≡ record_offset (shape_of im kind) from
  pub upto : OneRun im kind from to

-- where a component's name begins
abbrev pub component_name_offset : List ℕ → ℕ → ℕ
component_name_offset im i = record_offset (shape_of im Component) i + 2

-- ---- what a block after the header holds
unfoldable pub kind_at : List ℕ → ℕ → Kind
kind_at im b = cond (ltb b (first_block im Label)) Component (cond (ltb b (first_block im User)) Label User)

-- of a kind of that shape, block b holds the records from `from` up to `to`; from `end` on its bytes are unused
abbrev pub held : Kind → Shape → ℕ → Contents
held kind shape b =
    let from = shape.capacity * (b - shape.first) in
    let to = min shape.count (from + shape.capacity) in
    record { kind = kind; from = from; to = to; end = 4 + shape.size * (to - from) }

unfoldable pub contents_of : List ℕ → ℕ → Contents
contents_of im b = held (kind_at im b) (shape_of im (kind_at im b)) b
