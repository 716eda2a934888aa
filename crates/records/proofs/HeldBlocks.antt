-- One block of a kind, as the walk over the kind has it: what it holds, the run of its records and the record before them. Assumes nothing.
use Rattle.std.proofs.Common.{◌≡◌, ℕ, ◌+◌, ◌-◌, ◌*◌, ◌%◌, ◌<◌, ◌≤◌, List, length, sym, ap, ◌∙◌, arith}
use native.Mathlib.Nat.{mul-mod_right}
use Rattle.fields.specs.Scan.{first_bad}
use Rattle.fields.proofs.Scan.{bad-upto}
use Rattle.header.specs.declared.layout.Kind.TheVariants.{Component}
use Rattle.header.specs.declared.layout.Shape.{Shape}
use Rattle.header.specs.declared.layout.Contents.{Contents}
use Rattle.header.specs.declared.counts.Counts.{Counts}
use Rattle.header.specs.Layout.{counts_of, record_size, count_of, shape_of, Shaped, records_of, held, contents_of}
use Rattle.header.specs.Limits.{Counted}
use Rattle.header.proofs.Inside.{Held, held_by}
use Rattle.records.specs.Rules.{record_in, first_bad_of_run, fresh_rule, record_rule, first_bad_record}
use Rattle.records.specs.Fresh.{NamesKept}
use Rattle.records.specs.Kinds.{OfKind, RunOf}
use Rattle.records.proofs.BlockRuns.{after_at, of-needed, holds-it, run-after, record-both, names-kept}

pub record Block (im : List ℕ) (given : Counts) (shape : Shape) (b : ℕ) (h : Contents) : Type 0 where
  pub counted : Counted im
  pub counts : given ≡ counts_of im
  pub shaped : Shaped im h.kind shape
  pub among : OfKind im h.kind b
  pub is : h ≡ contents_of im b

pub block_of : {im : List ℕ} {given : Counts} {shape : Shape} {b : ℕ} {h : Contents} → Counted im → given ≡ counts_of im
    → Shaped im h.kind shape × (OfKind im h.kind b × (h ≡ contents_of im b)) → Block im given shape b h
block_of counted counts held = record { counted = counted; counts = counts; shaped = held.0; among = held.1.0; is = held.1.1 }

module _ {im : List ℕ} {given : Counts} {shape : Shape} {b : ℕ} {h : Contents} (k : Block im given shape b h) where
  placed : h ≡ held h.kind (shape_of im h.kind) b
  placed = k.is ∙ holds-it im h.kind b k.among

  from_is : h.from ≡ shape.capacity * (b - shape.first)
  from_is = ap (λ (x : Contents). x.from) placed ∙ sym (ap (λ (x : Shape). x.capacity * (b - x.first)) k.shaped.is)

  pub held_kept : Held im h
  held_kept = let m = of-needed im h.kind b k.among in held_by im b h k.is m.0 m.1

  pub to-few : h.to < 131072
  to-few =
      let count : shape.count ≡ count_of im h.kind = ap (λ (x : Shape). x.count) k.shaped.is in
      omega (arith, k.shaped.few, held_kept.counted)

  pub from-few : h.from < 131072
  from-few = omega (arith, to-few, held_kept.ordered)

  pub levels-few : given.levels ≤ 256
  levels-few = rw k.counts (omega (arith, k.counted.levels_limit))

  module _ (run : List ℕ) (r : RunOf im h.kind h.from h.to run) where
    pub run-whole : length run % record_size given.edition h.kind ≡ 0
    run-whole = rw (k.counts, r.long) (mul-mod_right (record_size (counts_of im).edition h.kind) (h.to - h.from))

    -- j is where the search for a rule of two records ends
    module _ (previous : List ℕ)
        (before : 1 ≤ shape.capacity * (b - shape.first) → previous ≡ record_in (records_of im h.kind) (shape.capacity * (b - shape.first) - 1))
        (j : ℕ) (found : j ≡ first_bad_of_run h.kind (given) h.from previous run) where
      pub after_is : h.from + j ≡ first_bad (after_at im h.kind) (h.to - h.from) h.from
      after_is =
          ap (λ (x : ℕ). h.from + x) (found ∙ ap (λ (c : Counts). first_bad_of_run h.kind c h.from previous run) k.counts)
          ∙ run-after h.kind (counts_of im) (records_of im h.kind) h.from h.to run r.long r.same previous (rw from_is before)

      pub after-upto : h.from + j ≤ h.to
      after-upto =
          omega (arith, after_is, bad-upto (after_at im h.kind) (h.to - h.from) h.from, held_kept.ordered)

      pub after-names : (h.kind ≡ Component → NamesKept (records_of im Component) h.from)
          → h.kind ≡ Component → NamesKept (records_of im Component) (h.from + j)
      after-names names e = rw after_is (rw e (names-kept (counts_of im) (records_of im Component) h.from (h.to - h.from) (names e)))

      -- and i where the search for names up to there ends
      module _ (i : ℕ)
          (known : i ≡ first_bad (fresh_rule h.kind (given) (records_of im h.kind)) (h.from + j - h.from) h.from) where
        pub bad-is : i ≡ first_bad_record im b
        unfolding first_bad_record
        bad-is =
            known
            ∙ ap (λ (c : Counts). first_bad (fresh_rule h.kind c (records_of im h.kind)) (h.from + j - h.from) h.from) k.counts
            ∙ ap (λ (x : ℕ). first_bad (fresh_rule h.kind (counts_of im) (records_of im h.kind)) (x - h.from) h.from) after_is
            ∙ sym (record-both h.kind (counts_of im) (records_of im h.kind) (h.to - h.from) h.from)
            ∙ ap (λ (c : Contents). first_bad (record_rule im c.kind) (c.to - c.from) c.from) k.is

        pub bad-end : i ≡ h.to → (i ≡ h.from + j) × (h.from + j ≡ h.to)
        bad-end e =
            let upto = bad-upto (fresh_rule h.kind (given) (records_of im h.kind)) (h.from + j - h.from) h.from in
            let whole : h.from + j ≡ h.to = omega (arith, known, after-upto) in
            (e ∙ sym whole, whole)
