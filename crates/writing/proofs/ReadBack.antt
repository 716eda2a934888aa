-- The records of an image that is laid out are those that it was made from. Assumes nothing.
use Prim.Native.Nat.{ℕ, ◌+◌, ◌-◌, ◌*◌, ◌/◌, ◌%◌, ◌≤◌, ◌<◌}
use mathlib.Core.Path.{◌≡◌, sym, ap, ap₂, ◌∙◌}
use mathlib.Core.List.{List, []}
use native.Mathlib.Nat.{add_assoc, div-add-mod, mod-lt}
use native.Mathlib.Omega.{arith}
use lib.ListN.{length, get_or, take, drop}
use lib.Seq.{take-take, drop-drop, get_or-take, get_or-drop, ext_get_or}
use Rattle.fields.specs.Bytes.{part}
use Rattle.fields.proofs.Laws.{drop-take}
use Rattle.blocks.specs.Blocks.{block_at}
use Rattle.header.specs.declared.edition.Edition.{Edition}
use Rattle.header.specs.declared.layout.Kind.{Kind}
use Rattle.header.specs.declared.layout.Shape.{Shape}
use Rattle.header.specs.declared.counts.Counts.{Counts}
use Rattle.header.specs.Layout.{kind_byte, record_size, capacity_of, Roomy, record_offset, record_at, records_of}
use Rattle.header.proofs.Inside.{block-among, slot-inside, records-count, record_of}
use Rattle.header.proofs.Editions.{kind-roomy}
use Rattle.writing.specs.Laid.{block_of, first_in, image_of, Fits}
use Rattle.writing.proofs.Packed.{block-record}
use Rattle.writing.proofs.Placed.{room-for-records, records_in, image-block}
use Rattle.writing.proofs.Counted.{edition-is, count-is, laid_shape, shape_is}
use Rattle.writing.proofs.Sound.{in-sized, in_count, in-few}

-- a part of the image inside one block
pub part-in-block : (im : List ℕ) (b k m : ℕ) → k + m ≤ 512 → part im (512 * b + k) m ≡ part (block_at im b) k m
unfolding block_at
part-in-block im b k m h =
    sym (ap (take m) (drop-take k 512 (drop (512 * b) im)) ∙ take-take m (512 - k) (drop k (drop (512 * b) im)) (omega arith)
    ∙ ap (take m) (drop-drop k (512 * b) im))

module _ (n : Counts) (records : Kind → List (List ℕ)) (fits : Fits n records) where
  abbrev im : List ℕ
  im = image_of n records

  module _ (kind : Kind) (i : ℕ) (here : i < length (records kind)) where
    abbrev size : ℕ
    size = record_size n.edition kind

    abbrev capacity : ℕ
    capacity = capacity_of n.edition kind

    roomy : Roomy (laid_shape n records kind)
    roomy = kind-roomy n.edition kind (first_in n records kind) (length (records kind))

    slot : i % capacity < length (records_in n records kind (i / capacity))
    slot =
        let e = div-add-mod i capacity in
        let l = mod-lt i roomy.some in
        omega (arith, in_count n records fits kind (i / capacity))

    -- the block that holds the record, and the record there
    holds-it : block_at im (first_in n records kind + i / capacity)
        ≡ block_of (kind_byte kind) (first_in n records kind + i / capacity) (records_in n records kind (i / capacity))
    holds-it = image-block n records fits.sizes kind (i / capacity) (block-among (laid_shape n records kind) roomy i here)

    in_block : part (block_at im (first_in n records kind + i / capacity)) (4 + size * (i % capacity)) size
        ≡ get_or (records_in n records kind (i / capacity)) (i % capacity) []
    in_block =
        ap (λ (s : List ℕ). part s (4 + size * (i % capacity)) size) holds-it
        ∙ block-record (kind_byte kind) size capacity (room-for-records n.edition kind) (first_in n records kind + i / capacity)
        (records_in n records kind (i / capacity)) (in-sized n records fits kind (i / capacity)) (in-few n records fits kind (i / capacity))
        (i % capacity) slot

    pub record_is : record_at im kind i ≡ get_or (records kind) i []
    unfolding record_at record_offset
    record_is =
        ap₂ (λ (shape : Shape) (e : Edition). part im (record_offset shape i) (record_size e kind)) (shape_is n records fits kind) (edition-is n records fits)
        ∙ ap (λ (k : ℕ). part im k size) (add_assoc (512 * (first_in n records kind + i / capacity)) 4 (size * (i % capacity)))
        ∙ part-in-block im (first_in n records kind + i / capacity) (4 + size * (i % capacity)) size
        (omega (arith, slot-inside (laid_shape n records kind) roomy i, roomy.room))
        ∙ in_block
        ∙ get_or-take capacity (drop (capacity * (i / capacity)) (records kind)) (i % capacity) [] (mod-lt i roomy.some)
        ∙ get_or-drop (capacity * (i / capacity)) (records kind) (i % capacity) []
        ∙ ap (λ (k : ℕ). get_or (records kind) k []) (div-add-mod i capacity)

  pub records-are : (kind : Kind) → records_of im kind ≡ records kind
  records-are kind =
      let as_many : length (records_of im kind) ≡ length (records kind) = records-count im kind ∙ count-is n records fits kind in
      ext_get_or [] (records_of im kind) (records kind) as_many
      (λ i h. record_of im kind i (omega (arith, records-count im kind)) ∙ record_is kind i (omega arith))
