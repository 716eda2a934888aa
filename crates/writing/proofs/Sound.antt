-- Every block of an image that is laid out has the right sums, place, kind and number of records, and zeros behind them. Assumes nothing.
use Prim.Native.Nat.{ℕ, zero, suc, ◌+◌, ◌-◌, ◌*◌, ◌≤◌, ◌<◌, min}
use mathlib.Core.Path.{◌≡◌, refl, sym, ap, ap₂, ◌∙◌, subst}
use mathlib.Core.Bool.{true}
use mathlib.Core.List.{List, ◌++◌, flatten}
use native.Mathlib.Nat.{add-zero}
use native.Mathlib.Omega.{arith}
use lib.ListN.{length, drop, length-take, length-drop, get_or-eq_default}
use Rattle.fields.specs.Bytes.{byte_at, number2}
use Rattle.blocks.specs.Blocks.{block_at, block_rule, block_count}
use Rattle.blocks.proofs.Meaning.{block-holds}
use Rattle.header.specs.declared.layout.Kind.{Kind}
use Rattle.header.specs.declared.layout.Kind.TheVariants.{Label, User}
use Rattle.header.specs.declared.layout.Shape.{Shape}
use Rattle.header.specs.declared.layout.Contents.{Contents}
use Rattle.header.specs.declared.counts.Counts.{Counts}
use Rattle.header.specs.Layout.{kind_byte, record_size, capacity_of, blocks_needed, kind_at, held, contents_of}
use Rattle.header.proofs.Inside.{kind-among}
use Rattle.records.specs.Rules.{layout_rule}
use Rattle.records.proofs.MeaningBlocks.{LayoutKept, layout-holds}
use Rattle.writing.specs.Laid.{head_of, sealed, block_of, Sized, header_used, header_block, blocks_in, first_in, image_of, Fits}
use Rattle.writing.proofs.Sealed.{sealed-sum_a, sealed-sum_b, sealed-byte}
use Rattle.writing.proofs.Packed.{sized-take, sized-drop, used-length, used-fits}
use Rattle.writing.proofs.HeaderFields.{bytes2-number}
use Rattle.writing.proofs.Placed.{header-fits, room-for-records, image-length, image-header, records_in, image-block}
use Rattle.writing.proofs.Counted.{block-byte, blocks-are, first-is, needed-are, laid_shape, shape_is}

-- ---- a block that is laid out from its used bytes has the right sums and place
module _ (im : List ℕ) (b : ℕ) (used : List ℕ) (fits : length used ≤ 510) (is : block_at im b ≡ sealed used) where
  pub byte-in : (i : ℕ) → i < 510 → byte_at im (512 * b + i) ≡ byte_at used i
  byte-in i h = block-byte im b i (omega arith) ∙ ap (λ (s : List ℕ). byte_at s i) is ∙ sealed-byte used fits i h

  pub block-right : number2 used 2 ≡ b → block_rule im b ≡ true
  unfolding number2
  block-right e =
      block-holds im b
      (record {
        first = rw is (sealed-sum_a used fits);
        second = rw is (sealed-sum_b used fits);
        place = rw is (ap₂ (λ (x y : ℕ). x + 256 * y) (sealed-byte used fits 2 (omega arith)) (sealed-byte used fits 3 (omega arith)) ∙ e);
      })

module _ (n : Counts) (records : Kind → List (List ℕ)) (fits : Fits n records) where
  abbrev im : List ℕ
  im = image_of n records

  -- ---- block j of a kind: its used bytes
  abbrev used_in : Kind → ℕ → List ℕ
  used_in kind j = head_of (kind_byte kind) (length (records_in n records kind j)) (first_in n records kind + j) ++ flatten (records_in n records kind j)

  module _ (kind : Kind) (j : ℕ) where
    pub in-sized : Sized (record_size n.edition kind) (records_in n records kind j)
    in-sized =
        sized-take (record_size n.edition kind) (capacity_of n.edition kind) (drop (capacity_of n.edition kind * j) (records kind))
        (sized-drop (record_size n.edition kind) (capacity_of n.edition kind * j) (records kind) (fits.sizes kind))

    pub in_count : length (records_in n records kind j) ≡ min (capacity_of n.edition kind) (length (records kind) - capacity_of n.edition kind * j)
    in_count = simp (length-take, length-drop)

    pub in-few : length (records_in n records kind j) ≤ capacity_of n.edition kind
    in-few = omega (arith, in_count)

    in-long : length (used_in kind j) ≡ 4 + record_size n.edition kind * length (records_in n records kind j)
    in-long =
        used-length (kind_byte kind) (record_size n.edition kind) (capacity_of n.edition kind) (room-for-records n.edition kind)
        (first_in n records kind + j) (records_in n records kind j) in-sized

    in-fits : length (used_in kind j) ≤ 510
    in-fits =
        used-fits (kind_byte kind) (record_size n.edition kind) (capacity_of n.edition kind) (room-for-records n.edition kind)
        (first_in n records kind + j) (records_in n records kind j) in-sized in-few

    block-is : j < blocks_in n records kind → block_at im (first_in n records kind + j) ≡ sealed (used_in kind j)
    unfolding block_of
    block-is h = image-block n records fits.sizes kind j h

  -- ---- the block at place b is one of its kind
  module _ (b : ℕ) (low : 1 ≤ b) (high : b < blocks_needed im) where
    abbrev kind : Kind
    kind = kind_at im b

    abbrev place : ℕ
    place = b - first_in n records kind

    after_first : first_in n records kind ≤ b
    after_first = subst (λ (x : ℕ). x ≤ b) (first-is n records fits kind) (kind-among im b low high).0

    among : place < blocks_in n records kind
    among =
        let h = (kind-among im b low high).1 in
        omega (arith, first-is n records fits kind, blocks-are n records fits kind, after_first)

    there : first_in n records kind + place ≡ b
    there = omega (arith, after_first)

    block-there : block_at im b ≡ sealed (used_in kind place)
    block-there = ap (block_at im) (sym there) ∙ block-is kind place among

    pub kind-block-right : block_rule im b ≡ true
    unfolding number2
    kind-block-right =
        block-right im b (used_in kind place) (in-fits kind place) block-there (bytes2-number (first_in n records kind + place) ∙ there)

    -- ---- its layout
    contents-are : contents_of im b ≡ held kind (laid_shape n records kind) b
    unfolding contents_of
    contents-are = ap (λ (shape : Shape). held kind shape b) (shape_is n records fits kind)

    held-count : (held kind (laid_shape n records kind) b).to - (held kind (laid_shape n records kind) b).from ≡ length (records_in n records kind place)
    held-count = omega (arith, in_count kind place)

    count-there : (contents_of im b).to - (contents_of im b).from ≡ length (records_in n records kind place)
    count-there = rw contents-are held-count

    end-there : (contents_of im b).end ≡ length (used_in kind place)
    end-there =
        ap (λ (c : Contents). c.end) contents-are ∙ ap (λ (k : ℕ). 4 + record_size n.edition kind * k) held-count ∙ sym (in-long kind place)

    byte-there : (i : ℕ) → i < 510 → byte_at im (512 * b + i) ≡ byte_at (used_in kind place) i
    byte-there = byte-in im b (used_in kind place) (in-fits kind place) block-there

    layout-there : LayoutKept im b
    layout-there =
        record {
          kind = ap (byte_at im) (sym (add-zero (512 * b))) ∙ byte-there 0 (omega arith) ∙ ap (λ (c : Contents). kind_byte c.kind) (sym contents-are);
          count = byte-there 1 (omega arith) ∙ sym count-there;
          unused = λ i l u.
              let e : 512 * b + (i - 512 * b) ≡ i = omega arith in
              let past : length (used_in kind place) ≤ i - 512 * b = omega (arith, end-there) in
              ap (byte_at im) (sym e) ∙ byte-there (i - 512 * b) (omega arith) ∙ get_or-eq_default (used_in kind place) 0 past;
        }

    pub layout-right : layout_rule im b ≡ true
    layout-right = layout-holds im b low high layout-there

  -- ---- every block
  pub blocks-right : (b : ℕ) → b < block_count im → block_rule im b ≡ true
  unfolding header_block number2 block_count
  blocks-right zero h =
      let used = header_used n (length (records User)) (length (records Label)) in
      block-right im 0 used (header-fits n (length (records User)) (length (records Label))) (image-header n records fits.sizes) refl
  blocks-right (suc b) h =
      kind-block-right (suc b) (omega arith) (omega (arith, needed-are n records fits, image-length n records fits.sizes))
