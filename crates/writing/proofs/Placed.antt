-- Which block stands where in an image that is laid out. Assumes nothing.
use Prim.Native.Nat.{ℕ, ◌+◌, ◌*◌, ◌≤◌, ◌<◌}
use mathlib.Core.Path.{◌≡◌, ap, ◌∙◌}
use mathlib.Core.List.{List, ◌++◌}
use native.Mathlib.Omega.{arith}
use lib.ListN.{length, take, drop, length-append}
use lib.Seq.{take_at}
use Rattle.fields.specs.Bytes.{part}
use Rattle.blocks.specs.Blocks.{block_at}
use Rattle.header.specs.declared.edition.Edition.{Edition}
use Rattle.header.specs.declared.layout.Kind.{Kind}
use Rattle.header.specs.declared.layout.Kind.TheVariants.{Component, Label, User}
use Rattle.header.specs.declared.counts.Counts.{Counts}
use Rattle.header.specs.Layout.{by_edition, kind_byte, record_size, capacity_of}
use Rattle.header.proofs.Editions.{kind-roomy, in_either}
use Rattle.writing.specs.Laid.{profile_byte, Sized, block_of, header_used, header_block, blocks_in, first_in, kind_laid, image_of}
use Rattle.writing.proofs.Sealed.{sealed-length, part-first, part-second}
use Rattle.writing.proofs.Packed.{kind-length, kind-block}
use Rattle.writing.proofs.HeaderFields.{told}

-- ---- the header
module _ (n : Counts) (users labels : ℕ) where
  pub header-used : length (header_used n users labels) ≡ by_edition n.edition 13 16
  header-used = (told (profile_byte n.profile) n.levels n.compartments n.groups users labels n.edition).long

  pub header-fits : length (header_used n users labels) ≤ 510
  header-fits = rw header-used (in_either n.edition (λ (x : ℕ). x ≤ 510) (omega arith) (omega arith))

  pub header-length : length (header_block n users labels) ≡ 512
  unfolding header_block
  header-length = sealed-length (header_used n users labels) header-fits

-- ---- the image
-- a block has room for its records
pub room-for-records : (edition : Edition) (kind : Kind) → 4 + record_size edition kind * capacity_of edition kind ≤ 510
room-for-records edition kind = (kind-roomy edition kind 0 0).room

-- the records of block j of a kind
abbrev pub records_in : Counts → (Kind → List (List ℕ)) → Kind → ℕ → List (List ℕ)
records_in n records kind j = take (capacity_of n.edition kind) (drop (capacity_of n.edition kind * j) (records kind))

module _ (n : Counts) (records : Kind → List (List ℕ)) (sizes : (kind : Kind) → Sized (record_size n.edition kind) (records kind)) where
  -- ---- a kind by itself
  abbrev laid : Kind → List ℕ
  laid kind = kind_laid n records kind

  laid-length : (kind : Kind) → length (laid kind) ≡ 512 * blocks_in n records kind
  laid-length kind =
      kind-length (kind_byte kind) (record_size n.edition kind) (capacity_of n.edition kind) (room-for-records n.edition kind)
      (blocks_in n records kind) (first_in n records kind) (records kind) (sizes kind)

  laid-block : (kind : Kind) (j : ℕ) → j < blocks_in n records kind
      → part (laid kind) (512 * j) 512 ≡ block_of (kind_byte kind) (first_in n records kind + j) (records_in n records kind j)
  laid-block kind j h =
      kind-block (kind_byte kind) (record_size n.edition kind) (capacity_of n.edition kind) (room-for-records n.edition kind)
      (blocks_in n records kind) (first_in n records kind) (records kind) j (sizes kind) h

  -- ---- the header and the kinds, one after the other: up to the components' end, and up to the labels' end
  abbrev head : List ℕ
  head = header_block n (length (records User)) (length (records Label))

  abbrev upto-components : List ℕ
  upto-components = head ++ laid Component

  abbrev upto-labels : List ℕ
  upto-labels = upto-components ++ laid Label

  head-length : length head ≡ 512
  head-length = header-length n (length (records User)) (length (records Label))

  components-length : length upto-components ≡ 512 * first_in n records Label
  components-length = omega (arith, length-append head (laid Component), head-length, laid-length Component)

  labels_length : length upto-labels ≡ 512 * first_in n records User
  labels_length = omega (arith, length-append upto-components (laid Label), components-length, laid-length Label)

  pub image-length : length (image_of n records)
      ≡ 512 * (1 + blocks_in n records Component + blocks_in n records Label + blocks_in n records User)
  unfolding image_of
  image-length = omega (arith, length-append upto-labels (laid User), labels_length, laid-length User)

  -- block 0 is the header
  pub image-header : block_at (image_of n records) 0 ≡ head
  unfolding image_of block_at
  image-header =
      part-first upto-labels (laid User) 0 512 (omega (arith, labels_length))
      ∙ part-first upto-components (laid Label) 0 512 (omega (arith, components-length))
      ∙ take_at head (laid Component) 512 head-length

  in-kind : (kind : Kind) (j : ℕ) → j < blocks_in n records kind
      → block_at (image_of n records) (first_in n records kind + j) ≡ part (laid kind) (512 * j) 512
  unfolding image_of block_at
  in-kind Component j h =
      let at : 512 * (1 + j) ≡ length head + 512 * j = omega (arith, head-length) in
      part-first upto-labels (laid User) (512 * (1 + j)) 512 (omega (arith, labels_length))
      ∙ part-first upto-components (laid Label) (512 * (1 + j)) 512 (omega (arith, components-length))
      ∙ ap (λ (k : ℕ). part upto-components k 512) at ∙ part-second head (laid Component) (512 * j) 512
  in-kind Label j h =
      let at : 512 * (first_in n records Label + j) ≡ length upto-components + 512 * j = omega (arith, components-length) in
      part-first upto-labels (laid User) (512 * (first_in n records Label + j)) 512 (omega (arith, labels_length))
      ∙ ap (λ (k : ℕ). part upto-labels k 512) at ∙ part-second upto-components (laid Label) (512 * j) 512
  in-kind User j h =
      let at : 512 * (first_in n records User + j) ≡ length upto-labels + 512 * j = omega (arith, labels_length) in
      ap (λ (k : ℕ). part (upto-labels ++ laid User) k 512) at ∙ part-second upto-labels (laid User) (512 * j) 512

  -- and block j of a kind stands j blocks after the kind's first
  pub image-block : (kind : Kind) (j : ℕ) → j < blocks_in n records kind
      → block_at (image_of n records) (first_in n records kind + j)
      ≡ block_of (kind_byte kind) (first_in n records kind + j) (records_in n records kind j)
  image-block kind j h = in-kind kind j h ∙ laid-block kind j h
