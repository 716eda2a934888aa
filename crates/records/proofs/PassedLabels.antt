-- The walk over the first full blocks of labels: what holds where it stands, and that a block in which code found nothing wrong keeps its
-- rule. Assumes nothing.
use Rattle.std.proofs.Common.{◌≡◌, ℕ, suc, ◌+◌, ◌-◌, ◌*◌, ◌/◌, ◌<◌, ◌≤◌, min, true, cond, eqb, List, [], length, take, drop, sym, refl, ap, ◌∙◌, subst, add-zero, mul-le-mul_left, mul-zero, mul-suc, add-one, arith, eq-eqb, ne_eqb}
use native.Mathlib.Nat.{div-add-mod, add-sub_cancel_left}
use Rattle.fields.specs.Bytes.{byte_at, part, all_zero}
use Rattle.fields.proofs.Both.{both}
use Rattle.fields.proofs.Laws.{part_length, part-byte, part-part}
use Rattle.fields.proofs.Scan.{all-good}
use Rattle.header.specs.declared.counts.Counts.{Counts}
use Rattle.header.specs.declared.layout.Shape.{Shape}
use Rattle.header.specs.declared.layout.Contents.{Contents}
use Rattle.header.specs.declared.layout.Kind.TheVariants.{Label}
use Rattle.header.specs.Layout.{counts_of, kind_byte, record_size, first_block, Fitted, Shaped, records_of, contents_of}
use Rattle.header.specs.Limits.{Counted}
use Rattle.header.proofs.Inside.{block_inside}
use Rattle.records.specs.Fields.{tag_of}
use Rattle.records.specs.LabelBlocks.{full_run, full_end, FineBlock}
use Rattle.records.specs.LabelRuns.{run_tag}
use Rattle.records.specs.Kinds.{OfKind, RunOf, KeptUpto}
use Rattle.records.specs.Rules.{record_in, fresh_rule, layout_rule, first_bad_record, content_rule}
use Rattle.records.proofs.BlockRuns.{of-needed, holds-it, run-taken}
use Rattle.records.proofs.FineLabels.{last-tag, run-fine, full-count}
use Rattle.records.proofs.HeldBlocks.{Block, levels-few, bad-is}
use Rattle.records.proofs.KindWalk.{Walk, walk_from, of-kind, says_held, held-said, kept_here, kept_next}

-- the tag of the label before place i; 0 before the first
abbrev pub tag_upto : List ℕ → ℕ → ℕ
tag_upto im i = cond (eqb i 0) 0 (tag_of (record_in (records_of im Label) (i - 1)))

-- the loop stands at block k of the labels; the last tag before it is `last`
pub record Passing (im : List ℕ) (shape : Shape) (k last : ℕ) : Type 0 where
  pub upto : shape.capacity * k ≤ shape.count
  pub kept : KeptUpto im Label (first_block im Label + k)
  pub tag : last ≡ tag_upto im (shape.capacity * k)

module _ {im : List ℕ} {shape : Shape} (s : Shaped im Label shape) where
  pub passing-start : Passing im shape 0 0
  passing-start = record { upto = rw mul-zero (omega arith); kept = λ c low high. absurd (omega arith); tag = rw mul-zero }

  module _ {k last : ℕ} (p : Passing im shape k last) (less : k < shape.count / shape.capacity) where
    -- the block that it stands at is full; `from` is the place of its first label
    abbrev b : ℕ
    b = shape.first + k

    abbrev from : ℕ
    from = shape.capacity * k

    full-room : from + shape.capacity ≤ shape.count
    full-room =
        let m : shape.capacity * suc k ≤ shape.capacity * (shape.count / shape.capacity) = mul-le-mul_left shape.capacity less in
        omega (arith, mul-suc shape.capacity k, div-add-mod shape.count shape.capacity)

    more : from < shape.count
    more = omega (arith, full-room, s.roomy.some)

    walk : Walk im Label shape b from []
    walk = walk_from s [] k p.kept (λ e. absurd (omega (arith, ap kind_byte e)))

    among : OfKind im Label b
    among = of-kind s walk more

    pub block_room : Fitted im → 512 * b + 512 ≤ length im
    block_room fit = omega (arith, block_inside im b fit (of-needed im Label b among).1)

    -- the block, as code takes it
    abbrev taken : List ℕ
    taken = take (512 * b + 512 - 512 * b) (drop (512 * b) im)

    taken_is : taken ≡ part im (512 * b) 512
    taken_is = rw add-sub_cancel_left

    to_is : from + shape.capacity ≡ min shape.count (from + shape.capacity)
    to_is = omega (arith, full-room)

    -- what it is to hold
    abbrev holds : Contents
    holds = says_held s walk more (from + shape.capacity) to_is

    pub sized : shape.size ≡ record_size (counts_of im).edition Label
    sized = ap (λ (x : Shape). x.size) s.is

    -- code found nothing wrong in it
    module _ (counted : Counted im) (n : Counts) (is : n ≡ counts_of im) (next : ℕ) (fine : FineBlock n shape last taken next) where
      abbrev block : List ℕ
      block = part im (512 * b) 512

      known : FineBlock n shape (tag_upto im from) block next
      known = rw (taken_is, p.tag) at fine

      held-is : holds ≡ contents_of im b
      held-is = held-said s walk more (from + shape.capacity) to_is

      to-full : from + shape.capacity - from ≡ shape.capacity
      to-full = add-sub_cancel_left from shape.capacity

      end-full : holds.end ≡ full_end shape
      end-full = ap (λ (m : ℕ). 4 + shape.size * m) to-full

      laid : layout_rule im b ≡ true
      unfolding layout_rule
      laid =
          let kind : byte_at im (512 * b) ≡ kind_byte Label =
          ap (byte_at im) (sym (add-zero (512 * b))) ∙ sym (part-byte im (512 * b) 512 0 (omega arith)) ∙ known.kind in
          let number : byte_at im (512 * b + 1) ≡ shape.capacity = sym (part-byte im (512 * b) 512 1 (omega arith)) ∙ known.number in
          let unused = sym (part-part im (512 * b) 512 (full_end shape) (510 - full_end shape) (omega (arith, s.roomy.room))) in
          rw (← held-is, end-full, to-full)
          (both _ _ (both _ _ (eq-eqb _ _ kind) (eq-eqb _ _ number)) (ap all_zero unused ∙ known.unused))

      one-held : Block im n shape b holds
      one-held = record { counted = counted; counts = is; shaped = s; among = among; is = held-is }

      run_of : RunOf im Label from (from + shape.capacity) (full_run shape block)
      run_of =
          let e = held-is ∙ holds-it im Label b among in
          let taken-run = run-taken im Label b from (from + shape.capacity) holds.end counted.fitted among
          (ap (λ (h : Contents). h.from) e) (ap (λ (h : Contents). h.to) e) (ap (λ (h : Contents). h.end) e) in
          let cut : 512 * b + full_end shape - (512 * b + 4) ≡ shape.size * shape.capacity = omega arith in
          let same = part-part im (512 * b) 512 4 (shape.size * shape.capacity) (omega (arith, s.roomy.room)) in
          rw (same, ← cut, ← end-full) taken-run

      -- the record before its first
      abbrev previous : List ℕ
      previous = record_in (records_of im Label) (from - 1)

      -- the search of its records ends after the last
      no-bad : from + shape.capacity ≡ first_bad_record im b
      no-bad =
          let size_is : shape.size ≡ record_size n.edition Label = rw is sized in
          let long = part_length im (512 * b) 512 (omega (arith, block_inside im b counted.fitted (of-needed im Label b among).1)) in
          let found = run-fine n (levels-few one-held) shape.size from size_is previous (full_run shape block) shape.capacity s.roomy.some
          (full-count n shape s.roomy size_is block long) known.each (rw (← known.end) known.limited) in
          let back : k ≡ b - shape.first = omega arith in
          let new = fresh_rule Label n (records_of im Label) in
          let fresh = all-good new (from + shape.capacity - from) from (λ i low high. refl) in
          let whole : from + (from + shape.capacity - from) ≡ from + shape.capacity = ap (λ (m : ℕ). from + m) to-full in
          bad-is one-held (full_run shape block) run_of previous
          (λ later. ap (λ (d : ℕ). record_in (records_of im Label) (shape.capacity * d - 1)) back) shape.capacity found (from + shape.capacity)
          (sym (fresh ∙ whole))

      -- the last of its tags is that of the record before the next block
      tag_is : next ≡ tag_upto im (from + shape.capacity)
      tag_is =
          let c : ℕ = shape.capacity in
          let run = full_run shape block in
          let last : run_tag shape.size run (c - 1) ≡ next = last-tag shape.size (tag_upto im from) run c s.roomy.some ∙ sym known.end in
          let there : run_tag shape.size run (c - 1) ≡ tag_of (record_in (records_of im Label) (from + (c - 1))) =
          ap (λ (z : ℕ). run_tag z run (c - 1)) sized ∙ ap tag_of (run_of.same (c - 1) (omega (arith, to-full, s.roomy.some))) in
          let place : from + (c - 1) ≡ from + c - 1 = omega (arith, s.roomy.some) in
          let later : from + c ≡ 0 → ⊥ = λ e. omega (arith, s.roomy.some) in
          sym last ∙ there ∙ rw (ne_eqb (from + c) 0 later, place)

      pub passing-next : Passing im shape (k + 1) next
      passing-next =
          let place : shape.capacity * (k + 1) ≡ from + shape.capacity = rw add-one (mul-suc shape.capacity k) in
          let here : content_rule im b ≡ true = kept_here s walk more (from + shape.capacity) to_is laid (from + shape.capacity) no-bad (omega arith) in
          let after : b + 1 ≡ first_block im Label + (k + 1) = omega (arith, ap (λ (x : Shape). x.first) s.is) in
          record {
            upto = rw place full-room;
            kept = subst (KeptUpto im Label) after (kept_next im Label b walk.before here);
            tag = rw place tag_is;
          }
