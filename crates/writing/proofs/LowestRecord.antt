-- Of an image whose header, length and layouts are right, 32 to 34 is told of the lowest record at fault: all of the kinds before it, and all of
-- its own kind at lower places, keep their rules. Assumes nothing.
use Rattle.std.proofs.Common.{Err}
use Prim.Native.Nat.{ℕ, suc, ◌+◌, ◌-◌, ◌*◌, ◌/◌, ◌≤◌, ◌<◌}
use mathlib.Core.Path.{◌≡◌, refl, sym, ap, ◌∙◌, subst}
use mathlib.Core.Bool.{Bool, true, false, ◌&&◌}
use mathlib.Core.List.{List}
use mathlib.Core.Logic.{inl}
use native.Mathlib.Nat.{add-sub_cancel_left, div-add-mod, mul-suc, mul-le-mul_left}
use native.Mathlib.Omega.{arith}
use borrow.Author.Tests.{ltb-true, ltb-false}
use lib.Dec.{ltb}
use Rattle.header.specs.declared.layout.Kind.{Kind}
use Rattle.header.specs.declared.layout.Shape.{Shape}
use Rattle.header.specs.declared.layout.Contents.{Contents}
use Rattle.header.specs.Layout.{count_of, blocks_of, first_block, blocks_needed, shape_of, record_block, record_slot, kind_at, held, contents_of}
use Rattle.header.specs.Header.{header_rule, fit_rule}
use Rattle.header.proofs.Inside.{shape-roomy, slot-below, block-among, blocks-among, blocks-after, kind-among, kind-of, held-is}
use Rattle.records.specs.Rules.{layout_rule, record_rule}
use Rattle.records.proofs.MeaningBlocks.{layout-means, content-holds, contents-kept}
use Rattle.image.specs.Check.{check_of}
use Rattle.image.specs.Exactly.{Framed, SoundBefore, RecordAtFault, record_refusal}
use Rattle.image.proofs.Exactly.{record-exactly}

module _ (im : List ℕ) (framed : Framed im) (header : (header_rule im && fit_rule im) ≡ true)
    (layouts : (b : ℕ) → 1 ≤ b → b < blocks_needed im → layout_rule im b ≡ true) where
  -- no block has a fault where no record has one
  pub all_sound : ((kind : Kind) (i : ℕ) → i < count_of im kind → record_rule im kind i ≡ true) → SoundBefore im (blocks_needed im)
  all_sound kept =
      record { header = header; contents = λ a low high. contents-kept im kept a low high (layout-means im a (layouts a low high)) }

  module _ (kind : Kind) (i : ℕ) (here : i < count_of im kind)
      (lower : (k : Kind) → first_block im k < first_block im kind → (j : ℕ) → j < count_of im k → record_rule im k j ≡ true)
      (earlier : (j : ℕ) → j < i → record_rule im kind j ≡ true) where
    abbrev shape : Shape
    shape = shape_of im kind

    -- the record's block, and its place there
    abbrev block : ℕ
    block = record_block shape i

    abbrev slot : ℕ
    slot = record_slot shape i

    upto : block < first_block im kind + blocks_of im kind
    upto = omega (arith, block-among shape (shape-roomy im kind) i here)

    inside : block < blocks_needed im
    inside = omega (arith, upto, blocks-among im kind)

    -- ---- the blocks before it
    -- the records of one of the same kind stand at lower places
    lower-place : (a : ℕ) → first_block im kind ≤ a → a < block → (j : ℕ) → j < (held kind shape a).to → j < i
    lower-place a low high j h =
        let c : ℕ = shape.capacity in
        let d : ℕ = a - first_block im kind in
        let whole : c * suc d ≤ c * (i / c) = mul-le-mul_left c (omega arith) in
        omega (arith, mul-suc c d, div-add-mod i c)

    record-before : (a : ℕ) → 1 ≤ a → a < block → (j : ℕ) → j < (contents_of im a).to → record_rule im (contents_of im a).kind j ≡ true
    unfolding contents_of
    record-before a low high j h = at (ltb a (first_block im kind)) refl
      where
        there : a < blocks_needed im
        there = omega (arith, inside)

        at : (t : Bool) → ltb a (first_block im kind) ≡ t → record_rule im (kind_at im a) j ≡ true
        at true e =
            lower (kind_at im a) (omega (arith, ltb-true a (first_block im kind) e, (kind-among im a low there).0)) j
            (omega (arith, (held-is im a low there).counted))
        at false e =
            let is : kind_at im a ≡ kind = kind-of im kind a (ltb-false a (first_block im kind) e) (omega (arith, upto)) in
            let there : j < (held kind shape a).to = subst (λ (k : Kind). j < (held k (shape_of im k) a).to) is h in
            subst (λ (k : Kind). record_rule im k j ≡ true) (sym is) (earlier j (lower-place a (ltb-false a (first_block im kind) e) high j there))

    before : SoundBefore im block
    before =
        record {
          header = header;
          contents = λ a low high.
              let there : a < blocks_needed im = omega (arith, inside) in
              content-holds im a low there (record { layout = layout-means im a (layouts a low there); sound = λ j l u. record-before a low high j u });
        }

    -- ---- the block itself
    holds-it : contents_of im block ≡ held kind shape block
    unfolding contents_of
    holds-it = rw (kind-of im kind block (omega arith) upto)

    from_is : (held kind shape block).from + slot ≡ i
    from_is = rw add-sub_cancel_left (div-add-mod i shape.capacity)

    slot-among : slot < (held kind shape block).to - (held kind shape block).from
    slot-among = omega (arith, from_is, here, slot-below shape (shape-roomy im kind) i)

    pub record-told : record_rule im kind i ≡ false → check_of im ≡ Err (record_refusal kind block slot)
    record-told fault = (record-exactly im framed kind block slot).1 (inl at-fault)
      where
        from-there : (contents_of im block).from + slot ≡ i
        from-there = ap (λ (c : Contents). c.from + slot) holds-it ∙ from_is

        after : 1 ≤ block
        after = omega (arith, blocks-after im kind)

        at-fault : RecordAtFault im kind block slot
        at-fault =
            record {
              after = after;
              inside = inside;
              lower = before;
              layout = layouts block after inside;
              holds = ap (λ (c : Contents). c.kind) holds-it;
              among = rw holds-it slot-among;
              earlier = λ q h. earlier ((contents_of im block).from + q) (omega (arith, from-there));
              fault = ap (record_rule im kind) from-there ∙ fault;
            }
