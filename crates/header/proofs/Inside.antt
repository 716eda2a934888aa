-- Every record that the counts name lies inside a fitted image. Assumes nothing.
use Prim.Native.Nat.{ℕ, suc, ◌+◌, ◌-◌, ◌*◌, ◌/◌, ◌%◌, ◌≤◌, ◌<◌, min}
use mathlib.Core.Path.{◌≡◌, refl, sym, ◌∙◌, ap}
use mathlib.Core.Bool.{Bool, true, false, cond}
use mathlib.Core.List.{List, []}
use native.Mathlib.Nat.{zero-add, add-zero, mul-zero, mul-suc, mul-add, add-mul, mul_assoc, mul_comm, mod-lt, mod-eq_of_lt, mul-le-mul_left, le-div_iff_mul-le, div-add-mod, div-eq_of_lt, mul-add-div, mul-add-mod_self_left, mul-div_right, mul-mod_right}
use native.Mathlib.Numerals.{add-one}
use native.Mathlib.Omega.{arith}
use borrow.Author.Tests.{lt-ltb, le-ltb, ltb-true, ltb-false}
use lib.Dec.{ltb}
use lib.ListN.{length, get_or}
use Rattle.fields.proofs.Laws.{part_length}
use Rattle.fields.proofs.Scan.{list_length, list_at}
use Rattle.header.specs.declared.layout.Kind.{Kind}
use Rattle.header.specs.declared.layout.Kind.TheVariants.{Component, Label, User}
use Rattle.header.specs.declared.layout.Shape.{Shape}
use Rattle.header.specs.declared.layout.Contents.{Contents}
use Rattle.header.proofs.Editions.{kind-roomy}
use Rattle.header.specs.Layout.{edition_of, record_size, count_of, blocks_for, blocks_of, first_block, blocks_needed, Fitted, shape_of, Roomy, Shaped, record_slot, record_offset, record_at, records_of, OneRun, OneBlock, kind_at, contents_of}

-- ---- places counted by c at a time
-- of i and a place j later in the same run of c
slot-add : (c i j : ℕ) → 0 < c → i % c + j < c → ((i + j) / c ≡ i / c) × ((i + j) % c ≡ i % c + j)
slot-add c i j pos h =
    let e : c * (i / c) + i % c ≡ i = div-add-mod i c in
    let p : c * (i / c) + (i % c + j) ≡ i + j = omega arith in (
      ap (λ (n : ℕ). n / c) (sym p) ∙ mul-add-div pos (i / c) (i % c + j) ∙ ap (λ (n : ℕ). i / c + n) (div-eq_of_lt h) ∙ add-zero (i / c),
      ap (λ (n : ℕ). n % c) (sym p) ∙ mul-add-mod_self_left c (i / c) (i % c + j) ∙ mod-eq_of_lt h,
    )

-- the first place of the next run
slot_next : (c i : ℕ) → 0 < c → ((i + (c - i % c)) / c ≡ i / c + 1) × ((i + (c - i % c)) % c ≡ 0)
slot_next c i pos =
    let e : c * (i / c) + i % c ≡ i = div-add-mod i c in
    let h = mod-lt i pos in
    let m : c * suc (i / c) ≡ c * (i / c) + c = mul-suc c (i / c) in
    let p : c * suc (i / c) ≡ i + (c - i % c) = omega arith in (
      ap (λ (n : ℕ). n / c) (sym p) ∙ mul-div_right (suc (i / c)) pos ∙ sym (add-one (i / c)),
      ap (λ (n : ℕ). n % c) (sym p) ∙ mul-mod_right c (suc (i / c)),
    )

-- ---- any shape with room for its records
module _ (shape : Shape) (roomy : Roomy shape) where
  pub slot-below : (i : ℕ) → record_slot shape i < shape.capacity
  slot-below i = mod-lt i roomy.some

  -- a record lies inside the room for records
  pub slot-inside : (i : ℕ) → shape.size * record_slot shape i + shape.size ≤ shape.size * shape.capacity
  slot-inside i =
      let h : suc (i % shape.capacity) ≤ shape.capacity = mod-lt i roomy.some in
      rw (mul-suc shape.size (i % shape.capacity)) at (mul-le-mul_left shape.size h)

  -- and in one of the blocks that the records need
  pub block-among : (i : ℕ) → i < shape.count → i / shape.capacity < blocks_for shape.capacity shape.count
  unfolding blocks_for
  block-among i h =
      let q : ℕ = i / shape.capacity in
      let e : shape.capacity * q + i % shape.capacity ≡ i = div-add-mod i shape.capacity in
      let m : suc q * shape.capacity ≡ shape.capacity * q + shape.capacity = mul_comm (suc q) shape.capacity ∙ mul-suc shape.capacity q in
      (le-div_iff_mul-le roomy.some).1 (omega (arith, roomy.some))

  pub record-among : (i : ℕ) → i < shape.count
      → record_offset shape i + shape.size ≤ 512 * (shape.first + blocks_for shape.capacity shape.count)
  unfolding record_offset
  record-among i h = omega (arith, slot-inside i, block-among i h, roomy.room)

  -- where the record after the last one would begin
  pub record-end : (i : ℕ) → i ≤ shape.count
      → record_offset shape i < 512 * (shape.first + blocks_for shape.capacity shape.count) + 512
  unfolding record_offset blocks_for
  record-end i h =
      let q : ℕ = i / shape.capacity in
      let e : shape.capacity * q + i % shape.capacity ≡ i = div-add-mod i shape.capacity in
      let m : q * shape.capacity ≡ shape.capacity * q = mul_comm q shape.capacity in
      let l : q ≤ (shape.count + (shape.capacity - 1)) / shape.capacity = (le-div_iff_mul-le roomy.some).1 (omega arith) in
      omega (arith, slot-inside i, roomy.room)

  -- a block of the kind begins with a record that is there
  pub from-among : (b : ℕ) → shape.first ≤ b → b < shape.first + blocks_for shape.capacity shape.count
      → shape.capacity * (b - shape.first) < shape.count
  unfolding blocks_for
  from-among b low high =
      let d : ℕ = b - shape.first in
      let l : suc d ≤ (shape.count + (shape.capacity - 1)) / shape.capacity = omega arith in
      let m : suc d * shape.capacity ≡ shape.capacity * d + shape.capacity = mul_comm (suc d) shape.capacity ∙ mul-suc shape.capacity d in
      omega (arith, (le-div_iff_mul-le roomy.some).0 l, roomy.some)

  -- the room that up to as many records take as a block holds
  pub room_for : (n : ℕ) → n ≤ shape.capacity → 4 + shape.size * n ≤ 510
  room_for n h = omega (arith, mul-le-mul_left shape.size h, roomy.room)

  -- ---- a walk: to a later record of the block, and to the first of the next one
  pub same_block : (i j : ℕ) → record_slot shape i + j < shape.capacity
      → record_offset shape (i + j) ≡ record_offset shape i + shape.size * j
  unfolding record_offset
  same_block i j h =
      let s = slot-add shape.capacity i j roomy.some h in
      rw (s.0, s.1, mul-add) (omega arith)

  pub slot_same : (i j : ℕ) → record_slot shape i + j < shape.capacity → record_slot shape (i + j) ≡ record_slot shape i + j
  slot_same i j h = (slot-add shape.capacity i j roomy.some h).1

  pub block-after : (i : ℕ) → record_offset shape (i + (shape.capacity - record_slot shape i))
      ≡ record_offset shape i + shape.size * (shape.capacity - record_slot shape i) + (512 - shape.size * shape.capacity)
  unfolding record_offset
  block-after i =
      let s = slot_next shape.capacity i roomy.some in
      let h = mod-lt i roomy.some in
      let t : i % shape.capacity + (shape.capacity - i % shape.capacity) ≡ shape.capacity = omega arith in
      let d : shape.size * (i % shape.capacity) + shape.size * (shape.capacity - i % shape.capacity) ≡ shape.size * shape.capacity =
      sym (mul-add shape.size (i % shape.capacity) (shape.capacity - i % shape.capacity)) ∙ ap (λ (n : ℕ). shape.size * n) t in
      rw (s.0, s.1, mul-zero) (omega (arith, roomy.room))

  pub slot-after : (i : ℕ) → record_slot shape (i + (shape.capacity - record_slot shape i)) ≡ 0
  slot-after i = (slot_next shape.capacity i roomy.some).1

  -- the same place from the start of the kind's blocks: all records before it, and what each block before it leaves unused
  pub offset-straight : (i : ℕ) → 512 * shape.first + 4 + shape.size * i + (512 - shape.size * shape.capacity) * (i / shape.capacity)
      ≡ record_offset shape i
  unfolding record_offset
  offset-straight i =
      let q : ℕ = i / shape.capacity in
      let s : ℕ = i % shape.capacity in
      let room : ℕ = shape.size * shape.capacity in
      let e : shape.size * (shape.capacity * q + s) ≡ shape.size * i = ap (λ (n : ℕ). shape.size * n) (div-add-mod i shape.capacity) in
      let d : shape.size * (shape.capacity * q + s) ≡ room * q + shape.size * s =
      mul-add shape.size (shape.capacity * q) s ∙ ap (λ (n : ℕ). n + shape.size * s) (sym (mul_assoc shape.size shape.capacity q)) in
      let w : 512 - room + room ≡ 512 = omega (arith, roomy.room) in
      let g : (512 - room) * q + room * q ≡ 512 * q = sym (add-mul (512 - room) room q) ∙ ap (λ (n : ℕ). n * q) w in
      omega arith

-- ---- the shapes of an image
pub shape-roomy : (im : List ℕ) (kind : Kind) → Roomy (shape_of im kind)
shape-roomy im kind = kind-roomy (edition_of im) kind (first_block im kind) (count_of im kind)

-- a kind's blocks are among those of the image
pub blocks-among : (im : List ℕ) (kind : Kind) → first_block im kind + blocks_of im kind ≤ blocks_needed im
unfolding first_block blocks_needed
blocks-among im Component = omega arith
blocks-among im Label = omega arith
blocks-among im User = omega arith

-- and after the header
pub blocks-after : (im : List ℕ) (kind : Kind) → 1 ≤ first_block im kind
unfolding first_block
blocks-after im Component = omega arith
blocks-after im Label = omega arith
blocks-after im User = omega arith

-- the kind of a block after the header is one that has it
pub kind-among : (im : List ℕ) (b : ℕ) → 1 ≤ b → b < blocks_needed im
    → (first_block im (kind_at im b) ≤ b) × (b < first_block im (kind_at im b) + blocks_of im (kind_at im b))
unfolding kind_at
kind-among im b low high = at (ltb b (first_block im Label)) refl (ltb b (first_block im User)) refl
  where
    at : (s : Bool) → ltb b (first_block im Label) ≡ s → (t : Bool) → ltb b (first_block im User) ≡ t
        → (first_block im (cond s Component (cond t Label User)) ≤ b)
        × (b < first_block im (cond s Component (cond t Label User)) + blocks_of im (cond s Component (cond t Label User)))
    at true e t d = unfold first_block in let h = ltb-true b _ e in (omega arith, omega arith)
    at false e true d = unfold first_block in let g = ltb-false b _ e in let h = ltb-true b _ d in (omega arith, omega arith)
    at false e false d = unfold first_block blocks_needed in let g = ltb-false b _ d in (omega arith, omega arith)

-- and the other way: a kind's block is of that kind
pub kind-of : (im : List ℕ) (kind : Kind) (b : ℕ) → first_block im kind ≤ b → b < first_block im kind + blocks_of im kind → kind_at im b ≡ kind
unfolding kind_at first_block
kind-of im Component b low high = rw (lt-ltb b (1 + blocks_of im Component) high)
kind-of im Label b low high = rw (le-ltb b (1 + blocks_of im Component) low, lt-ltb b (1 + blocks_of im Component + blocks_of im Label) high)
kind-of im User b low high =
    let g : 1 + blocks_of im Component ≤ b = omega arith in
    rw (le-ltb b (1 + blocks_of im Component) g, le-ltb b (1 + blocks_of im Component + blocks_of im Label) low)

-- so the shape of a block's kind, as code has it, has the block, and a record that the block begins with
pub block-shaped : (im : List ℕ) (b : ℕ) (kind : Kind) (shape : Shape) → kind ≡ kind_at im b → Shaped im kind shape → 1 ≤ b → b < blocks_needed im
    → (shape.first ≤ b) × (shape.capacity * (b - shape.first) < shape.count)
block-shaped im b kind shape e s low high =
    let k = kind-among im b low high in
    rw (s.is, e) (k.0, from-among (shape_of im (kind_at im b)) (shape-roomy im (kind_at im b)) b k.0 k.1)

-- ---- what a block holds lies within the records of its kind and within its room
pub record Held (im : List ℕ) (c : Contents) : Type 0 where
  pub ordered : c.from ≤ c.to
  pub counted : c.to ≤ count_of im c.kind
  pub after : 4 ≤ c.end
  pub within : c.end ≤ 510

pub held-is : (im : List ℕ) (b : ℕ) → 1 ≤ b → b < blocks_needed im → Held im (contents_of im b)
unfolding contents_of
held-is im b low high =
    let shape : Shape = shape_of im (kind_at im b) in
    let roomy = shape-roomy im (kind_at im b) in
    let k = kind-among im b low high in
    let some = from-among shape roomy b k.0 k.1 in
    let from : ℕ = shape.capacity * (b - shape.first) in
    let to : ℕ = min shape.count (from + shape.capacity) in
    record { ordered = omega arith; counted = omega arith; after = omega arith; within = room_for shape roomy (to - from) (omega arith) }

pub held_by : (im : List ℕ) (b : ℕ) (c : Contents) → c ≡ contents_of im b → 1 ≤ b → b < blocks_needed im → Held im c
held_by im b c e low high = rw e (held-is im b low high)

-- its records are a run in one block
pub held-run : (im : List ℕ) (b : ℕ) → OneRun im (contents_of im b).kind (contents_of im b).from (contents_of im b).to
unfolding contents_of
held-run im b =
    let shape : Shape = shape_of im (kind_at im b) in
    let first : record_slot shape (shape.capacity * (b - shape.first)) ≡ 0 = mul-mod_right shape.capacity (b - shape.first) in
    omega (arith, first)

-- a block that the counts need lies inside a fitted image
pub block_inside : (im : List ℕ) (b : ℕ) → Fitted im → b < blocks_needed im → 512 * b + 512 ≤ length im
block_inside im b fit h = omega arith

-- ---- where a record begins, by the shape that code has
pub offset-shaped : (im : List ℕ) (kind : Kind) (shape : Shape) (i r : ℕ) → Shaped im kind shape → r ≡ record_offset shape i
    → r ≡ record_offset (shape_of im kind) i
offset-shaped im kind shape i r s e = e ∙ ap (λ (x : Shape). record_offset x i) s.is

module _ (im : List ℕ) (fit : Fitted im) where
  pub header-inside : 512 ≤ length im
  unfolding blocks_needed
  header-inside = omega arith

  pub record-inside : (kind : Kind) (i : ℕ) → i < count_of im kind → record_offset (shape_of im kind) i + record_size (edition_of im) kind ≤ length im
  record-inside kind i h =
      omega (arith, record-among (shape_of im kind) (shape-roomy im kind) i h, blocks-among im kind)

  pub record-upto : (kind : Kind) (i : ℕ) → i ≤ count_of im kind → record_offset (shape_of im kind) i < length im + 512
  record-upto kind i h =
      omega (arith, record-end (shape_of im kind) (shape-roomy im kind) i h, blocks-among im kind)

  pub record-length : (kind : Kind) (i : ℕ) → i < count_of im kind → length (record_at im kind i) ≡ record_size (edition_of im) kind
  unfolding record_at
  record-length kind i h = part_length im (record_offset (shape_of im kind) i) (record_size (edition_of im) kind) (record-inside kind i h)

-- ---- a run of records in one block: where each of them stands
pub one_block : (im : List ℕ) (kind : Kind) (first from to j : ℕ) → OneBlock im kind first from to → from ≤ j → j < to
    → first + record_size (edition_of im) kind * (j - from) ≡ record_offset (shape_of im kind) j
one_block im kind first from to j one low high =
    let shape : Shape = shape_of im kind in
    let h = slot-below shape (shape-roomy im kind) from in
    let e : from + (j - from) ≡ j = omega arith in
    ap (λ (n : ℕ). n + record_size (edition_of im) kind * (j - from)) one.begins
    ∙ sym (same_block shape (shape-roomy im kind) from (j - from) (omega (arith, one.upto)))
    ∙ ap (record_offset shape) e

-- ---- the list of the records of a kind
module _ (im : List ℕ) (kind : Kind) where
  pub records-count : length (records_of im kind) ≡ count_of im kind
  unfolding records_of
  records-count = list_length (record_at im kind) (count_of im kind) 0

  pub record_of : (i : ℕ) → i < count_of im kind → get_or (records_of im kind) i [] ≡ record_at im kind i
  unfolding records_of
  record_of i h = list_at (record_at im kind) (count_of im kind) 0 i [] h ∙ rw zero-add
