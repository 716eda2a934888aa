-- The walk over the blocks of a kind: what holds where it stands, one turn of it, and its end. Assumes nothing.
use Rattle.std.proofs.Common.{◌≡◌, ℕ, suc, ◌+◌, ◌-◌, ◌*◌, ◌/◌, ◌<◌, ◌≤◌, min, true, false, List, sym, ap, ◌∙◌, ⊎_elim, eq-or-lt_of_le, mul-zero, mul-suc, arith, eq-eqb, ne_eqb}
use native.Mathlib.Nat.{mul-div_right, add-sub_cancel_left}
use Rattle.fields.proofs.Both.{both, below_or}
use Rattle.fields.proofs.Scan.{bad-from, bad-upto}
use Rattle.header.specs.declared.layout.Kind.{Kind}
use Rattle.header.specs.declared.layout.Kind.TheVariants.{Component}
use Rattle.header.specs.declared.layout.Shape.{Shape}
use Rattle.header.specs.declared.layout.Contents.{Contents}
use Rattle.header.specs.Layout.{blocks_for, blocks_of, first_block, shape_of, Shaped, held, contents_of}
use Rattle.header.proofs.Inside.{held-is, block-among, from-among}
use Rattle.records.specs.Rules.{record_rule, layout_rule, first_bad_record, content_rule}
use Rattle.records.specs.Kinds.{OfKind, KeptUpto, LayoutBad, RecordBad, Passed}
use Rattle.records.proofs.BlockRuns.{of-needed, holds-it}
use Rattle.records.proofs.Marks.{marked-first}

-- it stands at block b, whose first record is at place `from`
pub record Walk (im : List ℕ) (kind : Kind) (shape : Shape) (b from : ℕ) (filter : List ℕ) : Type 0 where
  pub low : shape.first ≤ b
  pub stands : from ≡ shape.capacity * (b - shape.first)
  pub before : KeptUpto im kind b
  pub passed : from < shape.count → Passed im kind from filter

-- one block more keeps its rule
pub kept_next : (im : List ℕ) (kind : Kind) (b : ℕ) → KeptUpto im kind b → content_rule im b ≡ true → KeptUpto im kind (b + 1)
kept_next im kind b kept here c low high =
    let h : c ≤ b = omega arith in
    ⊎_elim (λ e. rw e here) (λ m. kept c low m) (eq-or-lt_of_le h)

module _ {im : List ℕ} {kind : Kind} {shape : Shape} (s : Shaped im kind shape) where
  first-is : shape.first ≡ first_block im kind
  first-is = ap (λ (x : Shape). x.first) s.is

  -- it begins after blocks that keep their rule; of components at the first block, as no name is marked in the filter yet
  pub walk_from : (filter : List ℕ) (fine : ℕ) → KeptUpto im kind (first_block im kind + fine) → (kind ≡ Component → fine ≡ 0)
      → Walk im kind shape (shape.first + fine) (shape.capacity * fine) filter
  walk_from filter fine kept first =
      record {
        low = omega arith;
        stands = rw add-sub_cancel_left;
        before = rw first-is kept;
        passed = λ more. record {
          names = λ e. record { each = λ j h. absurd (omega (arith, place e)) };
          marks = λ e. rw (place e) (marked-first _ _ _);
        };
      }
    where
      place : kind ≡ Component → shape.capacity * fine ≡ 0
      place e = rw (first e, mul-zero)

  module _ {b from : ℕ} {filter : List ℕ} (w : Walk im kind shape b from filter) where
    -- no block of the kind is left
    pub walk_end : shape.count ≤ from → KeptUpto im kind (first_block im kind + blocks_of im kind)
    walk_end past c low high =
        let kept : b ≤ c → ⊥ = λ h.
        let count : blocks_for shape.capacity shape.count ≡ blocks_of im kind = ap (λ (x : Shape). blocks_for x.capacity x.count) s.is in
        let left = from-among shape s.roomy b w.low (omega (arith, first-is)) in
        omega (arith, w.stands) in
        ⊎_elim (λ l. w.before c low l) (λ l. absurd (kept l)) (below_or c b)

    module _ (more : from < shape.count) where
      pub of-kind : OfKind im kind b
      of-kind =
          let count : blocks_for shape.capacity shape.count ≡ blocks_of im kind = ap (λ (x : Shape). blocks_for x.capacity x.count) s.is in
          let block : from / shape.capacity ≡ b - shape.first =
          ap (λ (k : ℕ). k / shape.capacity) w.stands ∙ mul-div_right (b - shape.first) s.roomy.some in
          record { low = omega (arith, first-is, w.low); high = omega (arith, first-is, w.low, block-among shape s.roomy from more) }

      -- what code says that the block holds
      module _ (to : ℕ) (is : to ≡ min shape.count (from + shape.capacity)) where
        abbrev pub says_held : Contents
        says_held = record { kind = kind; from = from; to = to; end = 4 + shape.size * (to - from) }

        pub held-said : says_held ≡ contents_of im b
        held-said = said shape from to s.is w.stands is ∙ sym (holds-it im kind b of-kind)
          where
            said : (x : Shape) (f t : ℕ) → x ≡ shape_of im kind → f ≡ x.capacity * (b - x.first) → t ≡ min x.count (f + x.capacity)
                → ◌≡◌ {A = Contents} (record { kind = kind; from = f; to = t; end = 4 + x.size * (t - f) }) (held kind (shape_of im kind) b)
            said x f t p q r = rw (r, q, p)

        to_is : to ≡ (contents_of im b).to
        to_is = ap (λ (c : Contents). c.to) held-said

        from_is : from ≡ (contents_of im b).from
        from_is = ap (λ (c : Contents). c.from) held-said

        pub layout-bad : layout_rule im b ≡ false → LayoutBad im kind b
        layout-bad e = record { block = of-kind; before = w.before; bad = e }

        -- its layout is right, and i is its lowest record that breaks a rule
        module _ (laid : layout_rule im b ≡ true) (i : ℕ) (found : i ≡ first_bad_record im b) where
          found-low : from ≤ i
          unfolding first_bad_record
          found-low =
              let h = bad-from (record_rule im (contents_of im b).kind) ((contents_of im b).to - (contents_of im b).from) (contents_of im b).from in
              omega (arith, found, from_is)

          found-high : i ≤ to
          unfolding first_bad_record
          found-high =
              let h = bad-upto (record_rule im (contents_of im b).kind) ((contents_of im b).to - (contents_of im b).from) (contents_of im b).from in
              let m = of-needed im kind b of-kind in
              omega (arith, found, to_is, (held-is im b m.0 m.1).ordered)

          pub place-low : from ≤ i
          place-low = found-low

          pub record-bad : i < to → RecordBad im kind b (i - from)
          record-bad l =
              record {
                block = of-kind;
                before = w.before;
                laid = laid;
                bad = content-bad;
                place = sym found ∙ (let e : i ≡ from + (i - from) = omega (arith, found-low) in e ∙ ap (λ (k : ℕ). k + (i - from)) from_is);
              }
            where
              content-bad : content_rule im b ≡ false
              content-bad = unfold content_rule in rw (laid, ne_eqb (first_bad_record im b) (contents_of im b).to (omega (arith, found, to_is)))

          pub kept_here : to ≤ i → content_rule im b ≡ true
          unfolding content_rule
          kept_here l =
              let upto : first_bad_record im b ≡ (contents_of im b).to = omega (arith, found, to_is, found-high) in
              both _ _ laid (eq-eqb _ _ upto)

          pub walk-next : (after : List ℕ) → to ≤ i → (i ≡ to → Passed im kind to after)
              → Walk im kind shape (b + 1) (from + shape.capacity) after
          walk-next after l passed =
              let step : b + 1 - shape.first ≡ suc (b - shape.first) = omega (arith, w.low) in
              let more_by : shape.capacity * (b + 1 - shape.first) ≡ shape.capacity * (b - shape.first) + shape.capacity =
              ap (λ (k : ℕ). shape.capacity * k) step ∙ mul-suc shape.capacity (b - shape.first) in
              let end : i ≡ to = omega (arith, found-high) in
              record {
                low = omega (arith, w.low);
                stands = ap (λ (k : ℕ). k + shape.capacity) w.stands ∙ sym more_by;
                before = kept_next im kind b w.before (kept_here l);
                passed = λ m. let e : to ≡ from + shape.capacity = omega arith in rw (← e) (passed end);
              }
