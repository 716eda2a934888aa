-- 31 to 35 are given exactly when request R-2 says, 1 and 2 aside. Assumes nothing.
use Rattle.std.proofs.Common.{Ok, Err}
use Prim.Native.Nat.{ℕ, zero-le, ◌+◌, ◌-◌, ◌≤◌, ◌<◌}
use mathlib.Core.Path.{◌≡◌, refl, sym, ◌∙◌, ap, subst}
use mathlib.Core.Bool.{Bool, true, false, cond, ◌&&◌, true≢false}
use mathlib.Core.List.{List, [], ◌∷◌}
use mathlib.Core.Logic.{◌↔◌, ◌⊎◌, inl, inr}
use native.Mathlib.Nat.{add-sub_cancel_left}
use native.Mathlib.Omega.{arith}
use borrow.Author.Tests.{lt-ltb, le-ltb, ltb-true, ltb-false, eqb-false, ne_eqb}
use lib.Dec.{eqb, ltb}
use lib.ListN.{get_or}
use Rattle.fields.specs.Scan.{first_bad}
use Rattle.fields.proofs.Scan.{good-before, bad-at, bad-from, bad-upto, bad-is, all-good}
use Rattle.blocks.specs.Blocks.{block_count, block_rule, first_bad_block}
use Rattle.header.specs.declared.layout.Kind.{Kind}
use Rattle.header.specs.declared.layout.Kind.TheVariants as kind
use Rattle.header.specs.Layout.{groups, users, blocks_needed, shape_of, record_block, record_slot, contents_of}
use Rattle.header.specs.Header.{header_rule, fit_rule}
use Rattle.header.proofs.Inside.{held-is}
use Rattle.records.specs.Rules.{layout_rule, record_rule, first_bad_record, content_rule}
use Rattle.hierarchy.specs.Forest.{first_ring_in}
use Rattle.hierarchy.specs.Below.{ends_rule, group_sets_rule, first_bad_below}
use Rattle.hierarchy.proofs.OfImage.{first-bad-users}
use Rattle.refusals.specs.declared.Refusal.TheVariants.{ImageLayout, ParentRing}
use Rattle.image.specs.declared.faults.Fault.TheVariants.{Layout, Ring}
use Rattle.image.specs.Faults.{Inspection, no_fault, fault_where, shown_as, record_fault, below_fault}
use Rattle.image.specs.Check.{fault_of, check_of}
use Rattle.image.specs.Exactly.{Framed, HeaderAtFault, SoundBefore, LayoutAtFault, RecordAtFault, RingAtFault, BelowAtFault, RecordTold, record_refusal}
use Rattle.image.specs.Walk.{first_bad_content, content_fault, counted_fault, found_fault}
use Rattle.image.proofs.Telling.{values_told, one_number, one-record, record-line, number-among, same_kind, same_block, same-slot}
use Rattle.image.proofs.InBlocks.{slot_rule, bad_slot, bad-counted}
use Rattle.image.proofs.Told.{found-lowest}

-- ---- what each finding says of the image
data Meant (im : List ℕ) (f : Inspection) : Type 0 where
  header : f ≡ Err (Layout 0) → HeaderAtFault im → Meant im f
  layout : (b : ℕ) → f ≡ Err (Layout b) → LayoutAtFault im b → Meant im f
  rec : (k : Kind) (b r : ℕ) → f ≡ Err (record_fault k b r) → RecordAtFault im k b r → Meant im f
  ring : (g : ℕ) → f ≡ Err (Ring g) → RingAtFault im g → Meant im f
  below : (u : ℕ) → f ≡ Err (below_fault im u) → BelowAtFault im u → Meant im f
  nothing : f ≡ Ok tt → Meant im f

module _ (im : List ℕ) (framed : Framed im) where
  no_block : ltb (first_bad_block im) (block_count im) ≡ false
  unfolding first_bad_block
  no_block =
      let e : first_bad (block_rule im) (block_count im) 0 ≡ 0 + block_count im =
      all-good (block_rule im) (block_count im) 0 (λ i a b. framed.blocks i (omega arith)) in
      le-ltb (first_bad (block_rule im) (block_count im) 0) (block_count im) (omega arith)

  -- the walk once length, checks and places are right
  framed-fault : fault_of im ≡ cond (header_rule im && fit_rule im) (counted_fault im) (Err (Layout 0))
  unfolding fault_of found_fault
  framed-fault = found-lowest im ∙ rw (framed.length, no_block)

-- ---- the fault that is told says so
module _ (im : List ℕ) (sound : (header_rule im && fit_rule im) ≡ true) where
  some : 1 ≤ blocks_needed im
  unfolding blocks_needed
  some = omega arith

  -- of the lowest block after the header that has a fault
  module _ (b : ℕ) (low : 1 ≤ b) (high : b < blocks_needed im) (lower : (a : ℕ) → 1 ≤ a → a < b → content_rule im a ≡ true)
      (fault : content_rule im b ≡ false) where
    before : SoundBefore im b
    before = record { header = sound; contents = lower }

    record-meant : layout_rule im b ≡ true → eqb (first_bad_record im b) (contents_of im b).to ≡ false
        → RecordAtFault im (contents_of im b).kind b (first_bad_record im b - (contents_of im b).from)
    record-meant e d =
        let c = contents_of im b in
        let n : ℕ = c.to - c.from in
        let slot : first_bad_record im b - c.from ≡ bad_slot im b = omega (arith, bad-counted im b) in
        let there : bad_slot im b < n =
        omega (arith, bad-counted im b, eqb-false (first_bad_record im b) c.to d, bad-upto (slot_rule im b) n 0, (held-is im b low high).ordered) in
        rw slot
        (record {
          after = low;
          inside = high;
          lower = before;
          layout = e;
          holds = refl;
          among = there;
          earlier = λ q h. good-before (slot_rule im b) n 0 q zero-le h;
          fault = bad-at (slot_rule im b) n 0 (omega (arith, there));
        })

    content-meant : Meant im (Err (content_fault im b))
    unfolding content_fault content_rule
    content-meant = at (layout_rule im b) refl (eqb (first_bad_record im b) (contents_of im b).to) refl fault
      where
        at : (t : Bool) → layout_rule im b ≡ t → (s : Bool) → eqb (first_bad_record im b) (contents_of im b).to ≡ s → (t && s) ≡ false
            → Meant im (Err (cond t (record_fault (contents_of im b).kind b (first_bad_record im b - (contents_of im b).from)) (Layout b)))
        at true e true d f = absurd (true≢false f)
        at true e false d f = rec _ _ _ refl (record-meant e d)
        at false e s d f = layout b refl (record { after = low; inside = high; lower = before; fault = e })

  -- of all blocks, groups and users
  counted-meant : Meant im (counted_fault im)
  unfolding counted_fault first_bad_content first_ring_in
  counted-meant =
      rw (first-bad-users im)
      (at (ltb (first_bad (content_rule im) (blocks_needed im - 1) 1) (blocks_needed im)) refl
      (ltb (first_bad (ends_rule im) (groups im) 0) (groups im)) refl (ltb (first_bad (group_sets_rule im) (users im) 0) (users im)) refl)
    where
      b : ℕ
      b = first_bad (content_rule im) (blocks_needed im - 1) 1

      g : ℕ
      g = first_bad (ends_rule im) (groups im) 0

      u : ℕ
      u = first_bad (group_sets_rule im) (users im) 0

      contents : ltb b (blocks_needed im) ≡ false → SoundBefore im (blocks_needed im)
      contents e =
          record {
            header = sound;
            contents =
                λ a low high.
                good-before (content_rule im) (blocks_needed im - 1) 1 a low (omega (arith, ltb-false b (blocks_needed im) e));
          }

      at : (s : Bool) → ltb b (blocks_needed im) ≡ s → (t : Bool) → ltb g (groups im) ≡ t → (v : Bool) → ltb u (users im) ≡ v
          → Meant im (fault_where s (content_fault im b) (fault_where t (Ring g) (fault_where v (below_fault im u) no_fault)))
      at true e t d v f =
          content-meant b (bad-from (content_rule im) (blocks_needed im - 1) 1) (ltb-true b (blocks_needed im) e)
          (good-before (content_rule im) (blocks_needed im - 1) 1)
          (bad-at (content_rule im) (blocks_needed im - 1) 1 (omega (arith, ltb-true b (blocks_needed im) e)))
      at false e true d v f =
          ring g refl
          (record {
            blocks = contents e;
            among = ltb-true g (groups im) d;
            earlier = λ h l. good-before (ends_rule im) (groups im) 0 h zero-le l;
            fault = bad-at (ends_rule im) (groups im) 0 (omega (arith, ltb-true g (groups im) d));
          })
      at false e false d true f =
          below u refl
          (record {
            blocks = contents e;
            rings = λ h l. good-before (ends_rule im) (groups im) 0 h zero-le (omega (arith, ltb-false g (groups im) d, l));
            among = ltb-true u (users im) f;
            earlier = λ w l. good-before (group_sets_rule im) (users im) 0 w zero-le l;
            fault = bad-at (group_sets_rule im) (users im) 0 (omega (arith, ltb-true u (users im) f));
          })
      at false e false d false f = nothing refl

-- ---- and the other way: an image that is like that is told the fault
first-is : (rule : ℕ → Bool) (n k i : ℕ) → k ≤ i → i < n → ((j : ℕ) → k ≤ j → j < i → rule j ≡ true) → rule i ≡ false → first_bad rule (n - k) k ≡ i
first-is rule n k i low high good bad = bad-is rule (n - k) k i low (omega arith) good bad

-- no place is bad
first-none : (rule : ℕ → Bool) (n k : ℕ) → k ≤ n → ((i : ℕ) → k ≤ i → i < n → rule i ≡ true) → ltb (first_bad rule (n - k) k) n ≡ false
first-none rule n k h good =
    let e : first_bad rule (n - k) k ≡ k + (n - k) = all-good rule (n - k) k (λ i a b. good i a (omega arith)) in
    le-ltb (first_bad rule (n - k) k) n (omega arith)

module _ (im : List ℕ) (framed : Framed im) where
  header-told : HeaderAtFault im → fault_of im ≡ Err (Layout 0)
  header-told h = framed-fault im framed ∙ rw h

  content-told : (b : ℕ) → 1 ≤ b → b < blocks_needed im → SoundBefore im b → content_rule im b ≡ false → fault_of im ≡ Err (content_fault im b)
  unfolding counted_fault first_bad_content
  content-told b low high lower fault =
      let e : first_bad (content_rule im) (blocks_needed im - 1) 1 ≡ b = first-is (content_rule im) (blocks_needed im) 1 b low high lower.contents fault in
      framed-fault im framed ∙ rw (lower.header, e, lt-ltb b (blocks_needed im) high)

  layout-told : (b : ℕ) → LayoutAtFault im b → fault_of im ≡ Err (Layout b)
  unfolding content_rule content_fault
  layout-told b k = content-told b k.after k.inside k.lower (rw k.fault) ∙ rw k.fault

  record-told : (kind : Kind) (b r : ℕ) → RecordAtFault im kind b r → fault_of im ≡ Err (record_fault kind b r)
  unfolding content_rule content_fault
  record-told kind b r k =
      let c = contents_of im b in
      let slots : (q : ℕ) → slot_rule im b q ≡ record_rule im kind (c.from + q) = λ q. ap (λ (x : Kind). record_rule im x (c.from + q)) k.holds in
      let slot : bad_slot im b ≡ r =
      bad-is (slot_rule im b) (c.to - c.from) 0 r zero-le (omega (arith, k.among)) (λ j low high. slots j ∙ k.earlier j high) (slots r ∙ k.fault) in
      let first : first_bad_record im b ≡ c.from + r = bad-counted im b ∙ ap (λ (q : ℕ). c.from + q) slot in
      let n : c.from + r ≡ c.to → ⊥ = λ (q : c.from + r ≡ c.to). omega (arith, q, k.among) in
      content-told b k.after k.inside k.lower (rw (k.layout, first, ne_eqb (c.from + r) c.to n))
      ∙ rw (k.layout, first, add-sub_cancel_left, k.holds)

  contents-none : SoundBefore im (blocks_needed im) → ltb (first_bad_content im) (blocks_needed im) ≡ false
  unfolding first_bad_content
  contents-none k = first-none (content_rule im) (blocks_needed im) 1 (some im k.header) k.contents

  ring-told : (g : ℕ) → RingAtFault im g → fault_of im ≡ Err (Ring g)
  unfolding counted_fault first_ring_in
  ring-told g k =
      let e : first_bad (ends_rule im) (groups im) 0 ≡ g =
      bad-is (ends_rule im) (groups im) 0 g zero-le (omega (arith, k.among)) (λ j low high. k.earlier j high) k.fault in
      framed-fault im framed ∙ rw (k.blocks.header, contents-none k.blocks, e, lt-ltb g (groups im) k.among)

  below-told : (u : ℕ) → BelowAtFault im u → fault_of im ≡ Err (below_fault im u)
  unfolding counted_fault first_ring_in
  below-told u k =
      let e : first_bad_below im ≡ u =
      first-bad-users im ∙ bad-is (group_sets_rule im) (users im) 0 u zero-le (omega (arith, k.among)) (λ j low high. k.earlier j high) k.fault in
      let d : first_bad (ends_rule im) (groups im) 0 ≡ 0 + groups im = all-good (ends_rule im) (groups im) 0 (λ i a b. k.rings i (omega (arith, b))) in
      framed-fault im framed
      ∙ rw (
        k.blocks.header,
        contents-none k.blocks,
        le-ltb (first_bad (ends_rule im) (groups im) 0) (groups im) (omega (arith, d)),
        e,
        lt-ltb u (users im) k.among,
      )

  -- ---- 31, 32 to 34, 35
  meant : Meant im (fault_of im)
  meant = subst (Meant im) (sym (framed-fault im framed)) (at (header_rule im && fit_rule im) refl)
    where
      at : (t : Bool) → (header_rule im && fit_rule im) ≡ t → Meant im (cond t (counted_fault im) (Err (Layout 0)))
      at true e = counted-meant im e
      at false e = header refl e

  pub layout-exactly : (check_of im ≡ Err ImageLayout) ↔ (HeaderAtFault im ⊎ ((b : ℕ) × LayoutAtFault im b))
  unfolding check_of
  layout-exactly = (at meant, back)
    where
      back : HeaderAtFault im ⊎ ((b : ℕ) × LayoutAtFault im b) → shown_as (fault_of im) ≡ Err ImageLayout
      back (inl h) = ap shown_as (header-told h)
      back (inr (b, k)) = ap shown_as (layout-told b k)

      at : Meant im (fault_of im) → shown_as (fault_of im) ≡ Err ImageLayout → HeaderAtFault im ⊎ ((b : ℕ) × LayoutAtFault im b)
      at (header q h) e = inl h
      at (layout b q k) e = inr (b, k)
      at (rec k b r q h) e = absurd (omega (arith, one-record k b r q e, (number-among k).0))
      at (ring g q h) e = absurd (omega (arith, one_number (Err (Ring g)) q e))
      at (below u q h) e = absurd (omega (arith, one_number (Err (below_fault im u)) q e))
      at (nothing q) e = absurd (omega (arith, one_number (Ok tt) q e))

  pub record-exactly : (k : Kind) (b r : ℕ) → (check_of im ≡ Err (record_refusal k b r)) ↔ RecordTold im k b r
  unfolding check_of
  record-exactly k b r = (at meant, back)
    where
      back : RecordTold im k b r → shown_as (fault_of im) ≡ Err (record_refusal k b r)
      back (inl h) = ap shown_as (record-told k b r h) ∙ (record-line k b r).0
      back (inr (e, (u, (h, p)))) = ap shown_as (below-told u h) ∙ rw (e, p.block, p.slot)

      at : Meant im (fault_of im) → shown_as (fault_of im) ≡ Err (record_refusal k b r) → RecordTold im k b r
      at (header q h) e = absurd (omega (arith, one_number (Err (Layout 0)) q e, (record-line k b r).1.0, (number-among k).0))
      at (layout c q h) e = absurd (omega (arith, one_number (Err (Layout c)) q e, (record-line k b r).1.0, (number-among k).0))
      at (rec j c s q h) e =
          let d = sym (record-line j c s).0 ∙ ap shown_as (sym q) ∙ e in
          inl
          (subst (λ (x : Kind). RecordAtFault im x b r) (same_kind j k c s b r d)
          (subst (λ (x : ℕ). RecordAtFault im j x r) (same_block j k c s b r d) (subst (λ (x : ℕ). RecordAtFault im j c x) (same-slot j k c s b r d) h)))
      at (ring g q h) e = absurd (omega (arith, one_number (Err (Ring g)) q e, (record-line k b r).1.0, (number-among k).1))
      at (below u q h) e =
          let c : ℕ = record_block (shape_of im kind.User) u in
          let s : ℕ = record_slot (shape_of im kind.User) u in
          let d : Err (record_refusal kind.User c s) ≡ Err (record_refusal k b r) = ap shown_as (sym q) ∙ e in
          inr (
            sym (same_kind kind.User k c s b r d),
            (u, (h, record { block = same_block kind.User k c s b r d; slot = same-slot kind.User k c s b r d })),
          )
      at (nothing q) e = absurd (omega (arith, one_number (Ok tt) q e, (record-line k b r).1.0, (number-among k).0))

  pub ring-exactly : (g : ℕ) → (check_of im ≡ Err (ParentRing g)) ↔ RingAtFault im g
  unfolding check_of
  ring-exactly g = (at meant, λ k. ap shown_as (ring-told g k))
    where
      at : Meant im (fault_of im) → shown_as (fault_of im) ≡ Err (ParentRing g) → RingAtFault im g
      at (header q h) e = absurd (omega (arith, one_number (Err (Layout 0)) q e))
      at (layout b q h) e = absurd (omega (arith, one_number (Err (Layout b)) q e))
      at (rec k b r q h) e = absurd (omega (arith, one-record k b r q e, (number-among k).1))
      at (ring f q h) e =
          let d : f ∷ [] ≡ g ∷ [] = ap values_told (ap shown_as (sym q) ∙ e) in
          subst (RingAtFault im) (ap (λ (l : List ℕ). get_or l 0 0) d) h
      at (below u q h) e = absurd (omega (arith, one_number (Err (below_fault im u)) q e))
      at (nothing q) e = absurd (omega (arith, one_number (Ok tt) q e))
