-- Two accepted images with the same counts have the same bytes in the blocks after the header, but for what their records hold and the checks of
-- blocks whose records differ; a block whose first 510 bytes are the same has the same check, the header too. Assumes nothing.
use Prim.Native.Nat.{ℕ, zero, suc, ◌+◌, ◌-◌, ◌*◌, ◌/◌, ◌%◌, ◌≤◌, ◌<◌}
use mathlib.Core.Path.{◌≡◌, refl, sym, ap, ap₂, ◌∙◌, subst}
use mathlib.Core.Bool.{Bool, true, false}
use mathlib.Core.List.{List}
use native.Mathlib.Nat.{add-zero, zero-add, le_antisymm, mul_comm, div-add-mod, div-lt_iff_lt-mul, mod-lt, mul-mod_right, mul-div_right}
use native.Mathlib.Numerals.{lt_of_le_of_ne}
use native.Mathlib.Omega.{arith}
use borrow.Author.Tests.{eqb-true, eqb-false, ltb-true, ltb-false}
use lib.Dec.{eqb, ltb}
use lib.ListN.{length}
use lib.Seq.{ext_get_or}
use Rattle.fields.specs.Bytes.{byte_at, part, number2}
use Rattle.fields.proofs.Laws.{part-byte, part_length}
use Rattle.blocks.specs.Blocks.{block_at, block_count, sum_a, sum_b}
use Rattle.header.specs.declared.edition.Edition.{Edition}
use Rattle.header.specs.declared.layout.Kind.{Kind}
use Rattle.header.specs.declared.layout.Kind.TheVariants.{Component, Label, User}
use Rattle.header.specs.declared.layout.Shape.{Shape}
use Rattle.header.specs.declared.layout.Contents.{Contents}
use Rattle.header.specs.declared.counts.Counts.{Counts}
use Rattle.header.specs.Layout.{edition_of, users, labels, components, counts_of, kind_byte, record_size, capacity_of, count_of, blocks_for, blocks_of}
use Rattle.header.specs.Layout.{first_block, blocks_needed, shape_of, record_offset, record_at, kind_at, held, contents_of}
use Rattle.header.proofs.Inside.{shape-roomy, kind-among, held-run, one_block}
use Rattle.image.proofs.EveryRule.{EveryRule}
use Rattle.records.proofs.BlockRuns.{size-some}
use Rattle.writing.proofs.Counted.{block-byte}

-- ---- a byte of a record
pub record-byte : (im : List ℕ) (kind : Kind) (i k : ℕ) → k < record_size (edition_of im) kind
    → byte_at im (record_offset (shape_of im kind) i + k) ≡ byte_at (record_at im kind i) k
unfolding record_at
record-byte im kind i k h = sym (part-byte im (record_offset (shape_of im kind) i) (record_size (edition_of im) kind) k h)

-- byte j of block b, among the records, is byte k of record i
pub record Spot (im : List ℕ) (b j : ℕ) : Type 0 where
  pub i : ℕ
  pub k : ℕ
  pub low : (contents_of im b).from ≤ i
  pub high : i < (contents_of im b).to
  pub inside : k < record_size (edition_of im) (contents_of im b).kind
  pub at : 512 * b + j ≡ record_offset (shape_of im (contents_of im b).kind) i + k

module _ (im : List ℕ) (b : ℕ) (low : 1 ≤ b) (high : b < blocks_needed im) where
  abbrev here : Contents
  here = contents_of im b

  abbrev shape : Shape
  shape = shape_of im here.kind

  -- where the block's first record begins
  first-offset : 512 * b + 4 ≡ record_offset shape here.from
  unfolding contents_of record_offset
  first-offset =
      let s : Shape = shape_of im (kind_at im b) in
      let after = (kind-among im b low high).0 in
      let none : s.capacity * (b - s.first) % s.capacity ≡ 0 = mul-mod_right s.capacity (b - s.first) in
      let place : s.capacity * (b - s.first) / s.capacity ≡ b - s.first = mul-div_right (b - s.first) (shape-roomy im (kind_at im b)).some in
      rw (none, place) (omega arith)

  pub spot : (j : ℕ) → 4 ≤ j → j < here.end → Spot im b j
  unfolding contents_of
  spot j first last =
      let size : ℕ = record_size (edition_of im) here.kind in
      let some : 1 ≤ size = size-some (edition_of im) here.kind in
      let q : ℕ = (j - 4) / size in
      let parts : size * q + (j - 4) % size ≡ j - 4 = div-add-mod (j - 4) size in
      let inside : (j - 4) % size < size = mod-lt (j - 4) some in
      let few : q < here.to - here.from = (div-lt_iff_lt-mul some).1 (rw mul_comm (omega arith)) in
      let run = one_block im here.kind (512 * b + 4) here.from here.to (here.from + q)
      (record { begins = first-offset; upto = held-run im b }) (omega arith) (omega arith) in
      let back : here.from + q - here.from ≡ q = omega arith in
      record {
        i = here.from + q;
        k = (j - 4) % size;
        low = omega arith;
        high = omega arith;
        inside = inside;
        at = omega (arith, run, ap (λ (x : ℕ). size * x) back);
      }

-- ---- a block's place in its bytes 2 and 3
pub place-bytes : (im : List ℕ) → EveryRule im → (b : ℕ) → b < blocks_needed im → (byte_at im (512 * b + 2) ≡ b) × (byte_at im (512 * b + 3) ≡ 0)
unfolding number2 block_count
place-bytes im old b h =
    let kept = (old.blocks b (omega (arith, old.fitted))).place in
    let second = block-byte im b 2 (omega arith) in
    let third = block-byte im b 3 (omega arith) in
    (omega (arith, old.fitted, old.length.most), omega (arith, old.fitted, old.length.most))

-- ---- two images with the same counts
module _ (im new : List ℕ) (old : EveryRule im) (kept : EveryRule new) (counts : counts_of new ≡ counts_of im)
    (users-same : users new ≡ users im) (labels-same : labels new ≡ labels im) where
  edition-same : edition_of new ≡ edition_of im
  edition-same = ap (λ (n : Counts). n.edition) counts

  count_same : (kind : Kind) → count_of new kind ≡ count_of im kind
  unfolding components
  count_same Component = ap (λ (n : Counts). n.levels + n.compartments + n.groups) counts
  count_same Label = labels-same
  count_same User = users-same

  blocks-same : (kind : Kind) → blocks_of new kind ≡ blocks_of im kind
  blocks-same kind = ap₂ (λ (e : Edition) (n : ℕ). blocks_for (capacity_of e kind) n) edition-same (count_same kind)

  first-same : (kind : Kind) → first_block new kind ≡ first_block im kind
  unfolding first_block
  first-same Component = refl
  first-same Label = rw (blocks-same Component)
  first-same User = rw (blocks-same Component, blocks-same Label)

  pub needed-same : blocks_needed new ≡ blocks_needed im
  unfolding blocks_needed
  needed-same = rw (blocks-same Component, blocks-same Label, blocks-same User)

  pub shape_same : (kind : Kind) → shape_of new kind ≡ shape_of im kind
  shape_same kind = rw (first-same kind, edition-same, count_same kind)

  kind-same : (b : ℕ) → kind_at new b ≡ kind_at im b
  unfolding kind_at
  kind-same b = rw (first-same Label, first-same User)

  pub contents-same : (b : ℕ) → contents_of new b ≡ contents_of im b
  unfolding contents_of
  contents-same b =
      ap (λ (kind : Kind). held kind (shape_of new kind) b) (kind-same b) ∙ ap (λ (shape : Shape). held (kind_at im b) shape b) (shape_same (kind_at im b))

  -- ---- a block after the header
  module _ (b : ℕ) (low : 1 ≤ b) (high : b < blocks_needed im) where
    abbrev among : Contents
    among = contents_of im b

    in-new : b < blocks_needed new
    in-new = omega (arith, needed-same)

    -- its layout and its place
    head-same : (j : ℕ) → j < 4 → byte_at new (512 * b + j) ≡ byte_at im (512 * b + j)
    head-same zero h =
        ap (byte_at new) (add-zero (512 * b)) ∙ (kept.layouts b low in-new).kind ∙ ap (λ (c : Contents). kind_byte c.kind) (contents-same b)
        ∙ sym (old.layouts b low high).kind ∙ ap (byte_at im) (sym (add-zero (512 * b)))
    head-same (suc zero) h =
        (kept.layouts b low in-new).count ∙ ap (λ (c : Contents). c.to - c.from) (contents-same b) ∙ sym (old.layouts b low high).count
    head-same (suc (suc zero)) h = (place-bytes new kept b in-new).0 ∙ sym (place-bytes im old b high).0
    head-same (suc (suc (suc zero))) h = (place-bytes new kept b in-new).1 ∙ sym (place-bytes im old b high).1
    head-same (suc (suc (suc (suc j)))) h = absurd (omega arith)

    spare-same : (j : ℕ) → among.end ≤ j → j < 510 → byte_at new (512 * b + j) ≡ byte_at im (512 * b + j)
    spare-same j first last =
        let late = (old.layouts b low high).unused (512 * b + j) (omega arith) (omega arith) in
        let end : (contents_of new b).end ≡ among.end = ap (λ (c : Contents). c.end) (contents-same b) in
        (kept.layouts b low in-new).unused (512 * b + j) (omega arith) (omega arith) ∙ sym late

    -- a byte before the check is the same, if it is so where a record holds it
    pub body_same : (j : ℕ) → j < 510
        → ((i k : ℕ) → among.from ≤ i → i < among.to → k < record_size (edition_of im) among.kind
        → 512 * b + j ≡ record_offset (shape_of im among.kind) i + k
        → byte_at (record_at new among.kind i) k ≡ byte_at (record_at im among.kind i) k)
        → byte_at new (512 * b + j) ≡ byte_at im (512 * b + j)
    body_same j last same = at (ltb j 4) refl (ltb j among.end) refl
      where
        held_at : 4 ≤ j → j < among.end → byte_at new (512 * b + j) ≡ byte_at im (512 * b + j)
        held_at first upto =
            let s = spot im b low high j first upto in
            let kind : Kind = among.kind in
            let there : 512 * b + j ≡ record_offset (shape_of new kind) s.i + s.k =
            s.at ∙ ap (λ (shape : Shape). record_offset shape s.i + s.k) (sym (shape_same kind)) in
            let inside : s.k < record_size (edition_of new) kind = subst (λ (e : Edition). s.k < record_size e kind) (sym edition-same) s.inside in
            ap (byte_at new) there ∙ record-byte new kind s.i s.k inside ∙ same s.i s.k s.low s.high s.inside s.at
            ∙ sym (record-byte im kind s.i s.k s.inside) ∙ ap (byte_at im) (sym s.at)

        at : (t : Bool) → ltb j 4 ≡ t → (u : Bool) → ltb j among.end ≡ u → byte_at new (512 * b + j) ≡ byte_at im (512 * b + j)
        at true e u f = head-same j (ltb-true j 4 e)
        at false e true f = held_at (ltb-false j 4 e) (ltb-true j among.end f)
        at false e false f = spare-same j (ltb-false j among.end f) last

  -- ---- a block whose bytes before the check are the same has the same check
  module _ (b : ℕ) (high : b < blocks_needed im) (body : (j : ℕ) → j < 510 → byte_at new (512 * b + j) ≡ byte_at im (512 * b + j)) where
    as_long : (a : List ℕ) → EveryRule a → b < blocks_needed a → length (block_at a b) ≡ 512
    unfolding block_at
    as_long a rules h = part_length a (512 * b) 512 (omega (arith, rules.fitted))

    byte_of : (a : List ℕ) (j : ℕ) → j < 510 → byte_at (part (block_at a b) 0 510) j ≡ byte_at a (512 * b + j)
    byte_of a j h = part-byte (block_at a b) 0 510 j h ∙ ap (byte_at (block_at a b)) (zero-add j) ∙ sym (block-byte a b j (omega arith))

    long-part : (a : List ℕ) → EveryRule a → b < blocks_needed a → length (part (block_at a b) 0 510) ≡ 510
    long-part a rules h = part_length (block_at a b) 0 510 (omega (arith, as_long a rules h))

    there-new : b < blocks_needed new
    there-new = omega (arith, needed-same)

    parts_same : part (block_at new b) 0 510 ≡ part (block_at im b) 0 510
    parts_same =
        let long = long-part new kept there-new in
        ext_get_or 0 (part (block_at new b) 0 510) (part (block_at im b) 0 510) (long ∙ sym (long-part im old high))
        (λ j h. let k : j < 510 = omega arith in byte_of new j k ∙ body j k ∙ sym (byte_of im j k))

    first-same-sum : byte_at new (512 * b + 510) ≡ byte_at im (512 * b + 510)
    unfolding block_count
    first-same-sum =
        block-byte new b 510 (omega arith) ∙ (kept.blocks b (omega (arith, kept.fitted, needed-same))).first ∙ ap (sum_a 0) parts_same
        ∙ sym (old.blocks b (omega (arith, old.fitted))).first ∙ sym (block-byte im b 510 (omega arith))

    second-same-sum : byte_at new (512 * b + 511) ≡ byte_at im (512 * b + 511)
    unfolding block_count
    second-same-sum =
        block-byte new b 511 (omega arith) ∙ (kept.blocks b (omega (arith, kept.fitted, needed-same))).second ∙ ap (sum_b 0 0) parts_same
        ∙ sym (old.blocks b (omega (arith, old.fitted))).second ∙ sym (block-byte im b 511 (omega arith))

    pub block_same : (j : ℕ) → j < 512 → byte_at new (512 * b + j) ≡ byte_at im (512 * b + j)
    block_same j h = at (ltb j 510) refl (eqb j 510) refl
      where
        at : (t : Bool) → ltb j 510 ≡ t → (u : Bool) → eqb j 510 ≡ u → byte_at new (512 * b + j) ≡ byte_at im (512 * b + j)
        at true e u f = body j (ltb-true j 510 e)
        at false e true f = rw (eqb-true j 510 f) first-same-sum
        at false e false f =
            let more = ltb-false j 510 e in
            let other = eqb-false j 510 f in
            let last : j ≡ 511 = le_antisymm (omega arith) (lt_of_le_of_ne more (λ q. other (sym q))) in
            rw last second-same-sum
