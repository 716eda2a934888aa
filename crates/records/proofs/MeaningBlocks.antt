-- What the rules of a block after the header mean, both ways, and that the blocks hold every record: where each block is right, so is
-- every record of each kind. Assumes nothing.
use Rattle.std.proofs.Common.{◌≡◌, ℕ, ◌+◌, ◌-◌, ◌*◌, ◌<◌, ◌≤◌, true, List, sym, subst, arith, eq-eqb, eqb-true}
use native.Mathlib.Nat.{div-add-mod, add-sub_cancel_left}
use Rattle.fields.specs.Bytes.{byte_at}
use Rattle.fields.specs.Scan.{first_bad}
use Rattle.fields.proofs.Both.{parts, both}
use Rattle.fields.proofs.Meaning.{zero-part, part-zero}
use Rattle.fields.proofs.Scan.{good-before, all-good}
use Rattle.header.specs.declared.layout.Kind.{Kind}
use Rattle.header.specs.declared.layout.Contents.{Contents}
use Rattle.header.specs.Layout.{edition_of, count_of, capacity_of, blocks_of, first_block, blocks_needed, kind_byte, shape_of, record_block, held, contents_of}
use Rattle.header.proofs.Inside.{held-is, shape-roomy, slot-below, block-among, blocks-among, blocks-after, kind-of}
use Rattle.records.specs.Rules.{record_rule, layout_rule, first_bad_record, content_rule}

-- ---- one block
-- byte 0 is the kind's and byte 1 the number of records that the counts ask for; the bytes after the records are unused
pub record LayoutKept (im : List ℕ) (b : ℕ) : Type 0 where
  pub kind : byte_at im (512 * b) ≡ kind_byte (contents_of im b).kind
  pub count : byte_at im (512 * b + 1) ≡ (contents_of im b).to - (contents_of im b).from
  pub unused : (i : ℕ) → 512 * b + (contents_of im b).end ≤ i → i < 512 * b + 510 → byte_at im i ≡ 0

module _ (im : List ℕ) (b : ℕ) where
  pub layout-means : layout_rule im b ≡ true → LayoutKept im b
  unfolding layout_rule
  layout-means e =
      let q2 = parts _ _ e in
      let q1 = parts _ _ q2.0 in
      let end : ℕ = (contents_of im b).end in
      record {
        kind = eqb-true _ _ q1.0;
        count = eqb-true _ _ q1.1;
        unused = λ i low high. zero-part im (512 * b + end) (510 - end) q2.1 i low (omega arith);
      }

  pub layout-holds : 1 ≤ b → b < blocks_needed im → LayoutKept im b → layout_rule im b ≡ true
  unfolding layout_rule
  layout-holds low high k =
      let end : ℕ = (contents_of im b).end in
      let h = held-is im b low high in
      rw (
        eq-eqb _ _ k.kind,
        eq-eqb _ _ k.count,
        part-zero im (512 * b + end) (510 - end) (λ i l u. k.unused i l (omega (arith, h.within))),
      )

-- its layout is right, and every record that it holds keeps its rule
pub record ContentKept (im : List ℕ) (b : ℕ) : Type 0 where
  pub layout : LayoutKept im b
  pub sound : (i : ℕ) → (contents_of im b).from ≤ i → i < (contents_of im b).to → record_rule im (contents_of im b).kind i ≡ true

module _ (im : List ℕ) (b : ℕ) where
  pub content-means : content_rule im b ≡ true → ContentKept im b
  unfolding content_rule first_bad_record
  content-means e =
      let q = parts _ _ e in
      let c : Contents = contents_of im b in
      let upto : first_bad (record_rule im c.kind) (c.to - c.from) c.from ≡ c.to = eqb-true _ _ q.1 in
      record {
        layout = layout-means im b q.0;
        sound = λ i low high. good-before (record_rule im c.kind) (c.to - c.from) c.from i low (subst (λ (w : ℕ). i < w) (sym upto) high);
      }

  pub content-holds : 1 ≤ b → b < blocks_needed im → ContentKept im b → content_rule im b ≡ true
  unfolding content_rule first_bad_record
  content-holds low high k =
      let c : Contents = contents_of im b in
      let h = held-is im b low high in
      let all : first_bad (record_rule im c.kind) (c.to - c.from) c.from ≡ c.from + (c.to - c.from) =
      all-good (record_rule im c.kind) (c.to - c.from) c.from (λ i l u. k.sound i l (omega (arith, h.ordered))) in
      let upto : first_bad (record_rule im c.kind) (c.to - c.from) c.from ≡ c.to = omega (arith, h.ordered) in
      both _ _ (layout-holds im b low high k.layout) (eq-eqb _ _ upto)

-- ---- every block
-- a record stands in a block of its kind, among those that the block holds
module _ (im : List ℕ) (kind : Kind) (i : ℕ) (here : i < count_of im kind) where
  abbrev block : ℕ
  block = record_block (shape_of im kind) i

  block-from : first_block im kind ≤ block
  block-from = omega arith

  block-upto : block < first_block im kind + blocks_of im kind
  block-upto = omega (arith, block-among (shape_of im kind) (shape-roomy im kind) i here)

  holds-it : contents_of im block ≡ held kind (shape_of im kind) block
  unfolding contents_of
  holds-it = rw (kind-of im kind block block-from block-upto)

  held-from : (held kind (shape_of im kind) block).from ≤ i
  held-from = rw add-sub_cancel_left (omega (arith, div-add-mod i (capacity_of (edition_of im) kind)))

  held-upto : i < (held kind (shape_of im kind) block).to
  held-upto =
      rw add-sub_cancel_left
      (omega (arith, here, div-add-mod i (capacity_of (edition_of im) kind), slot-below (shape_of im kind) (shape-roomy im kind) i))

-- so where every block is right, every record keeps its rule
pub records-kept : (im : List ℕ) → ((b : ℕ) → 1 ≤ b → b < blocks_needed im → content_rule im b ≡ true)
    → (kind : Kind) (i : ℕ) → i < count_of im kind → record_rule im kind i ≡ true
records-kept im kept kind i here =
    let b : ℕ = record_block (shape_of im kind) i in
    let low : 1 ≤ b = omega (arith, blocks-after im kind) in
    let high : b < blocks_needed im = omega (arith, blocks-among im kind, block-among (shape_of im kind) (shape-roomy im kind) i here) in
    subst (λ (c : Contents). (j : ℕ) → c.from ≤ j → j < c.to → record_rule im c.kind j ≡ true) (holds-it im kind i here)
    (content-means im b (kept b low high)).sound i (held-from im kind i here) (held-upto im kind i here)

-- and the other way: a block whose layout is right, of records that keep their rules, is right
pub contents-kept : (im : List ℕ) → ((kind : Kind) (i : ℕ) → i < count_of im kind → record_rule im kind i ≡ true)
    → (b : ℕ) → 1 ≤ b → b < blocks_needed im → LayoutKept im b → content_rule im b ≡ true
contents-kept im kept b low high layout =
    let h = held-is im b low high in
    content-holds im b low high (record { layout = layout; sound = λ i l u. kept (contents_of im b).kind i (omega (arith, h.counted)) })
