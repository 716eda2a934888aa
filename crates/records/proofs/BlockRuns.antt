-- The records of a block as a run: where they stand, and that the search of the run for a rule of two records and then for names gives the
-- block's lowest record that breaks a rule. Assumes nothing.
use Rattle.std.proofs.Common.{◌≡◌, ℕ, zero, suc, ◌+◌, ◌-◌, ◌*◌, ◌/◌, ◌<◌, ◌≤◌, min, Bool, List, length, take, drop, sym, refl, ap, ◌∙◌, ⊎_elim, add-zero, mul-le-mul_left, mul-zero, mul-suc, arith, eq-eqb}
use native.Mathlib.Nat.{mul-div_right, mul-mod_right, add-sub_cancel_left}
use Rattle.fields.specs.Bytes.{part}
use Rattle.fields.specs.Scan.{first_bad}
use Rattle.fields.proofs.Both.{parts, below_or}
use Rattle.fields.proofs.Laws.{part_length, part-part}
use Rattle.fields.proofs.Scan.{bad-shift, bad-same-on, bad-both, good-before}
use Rattle.header.specs.declared.edition.Edition.{Edition}
use Rattle.header.specs.declared.edition.Edition.TheVariants.{One}
use Rattle.header.specs.declared.layout.Kind.{Kind}
use Rattle.header.specs.declared.layout.Kind.TheVariants.{Component, Label, User}
use Rattle.header.specs.declared.layout.Shape.{Shape}
use Rattle.header.specs.declared.counts.Counts.{Counts}
use Rattle.header.specs.Layout.{edition_of, counts_of, record_size, capacity_of, count_of, first_block, blocks_needed, Fitted, shape_of, Roomy, Shaped, record_slot, record_offset, record_at, records_of, OneBlock, held, contents_of}
use Rattle.header.proofs.Editions.{size-least}
use Rattle.header.proofs.Inside.{shape-roomy, room_for, from-among, block_inside, blocks-among, blocks-after, kind-of, one_block, record_of}
use Rattle.records.specs.Rules.{record_in, run_record, class_start, after_rule, run_rule, first_bad_of_run, fresh_rule, rule_of}
use Rattle.records.specs.Fresh.{NamesKept, HoldsFrom}
use Rattle.records.specs.Kinds.{OfKind, RunOf}
use Rattle.records.proofs.MeaningComponents.{class-begun}
use Rattle.records.proofs.Marks.{shape-named}

pub size-some : (edition : Edition) (kind : Kind) → 1 ≤ record_size edition kind
size-some edition Component = omega arith
size-some edition Label = omega (arith, size-least edition Label)
size-some edition User = omega (arith, size-least edition User)

-- what is asked of the record at place i of a list and the one right before it; of an image's records
abbrev pub after_in : Kind → Counts → List (List ℕ) → ℕ → Bool
after_in kind n records i = after_rule kind n i (record_in records (i - 1)) (record_in records i)

abbrev pub after_at : List ℕ → Kind → ℕ → Bool
after_at im kind = after_in kind (counts_of im) (records_of im kind)

-- of the first of all, the one before it isn't asked
first-after : (kind : Kind) (n : Counts) (p q rec : List ℕ) → after_rule kind n 0 p rec ≡ after_rule kind n 0 q rec
first-after Component n p q rec =
    let first : 0 ≡ class_start n 0 = omega (arith, class-begun n 0) in
    rw (eq-eqb 0 (class_start n 0) first)
first-after Label n p q rec = refl
first-after User n p q rec = refl

-- ---- a run that holds the records of the places from `from` up to `to`
-- of components, also up to an earlier place
pub holds-components : (im : List ℕ) (kind : Kind) (from to upto : ℕ) (run : List ℕ) → RunOf im kind from to run → upto ≤ to
    → kind ≡ Component → HoldsFrom (records_of im Component) from upto run
holds-components im kind from to upto run r h e =
    let c : RunOf im Component from to run = rw e at r in
    record { long = omega (arith, c.long); same = λ q l. c.same q (omega arith) }

-- records of any list: those of an image, or of a run that no image holds
module _ (kind : Kind) (n : Counts) (records : List (List ℕ)) (from to : ℕ) (run : List ℕ)
    (long : length run ≡ record_size n.edition kind * (to - from))
    (same : (q : ℕ) → q < to - from → run_record (record_size n.edition kind) run q ≡ record_in records (from + q))
    (previous : List ℕ) (before : 1 ≤ from → previous ≡ record_in records (from - 1)) where
  rule-at : (q : ℕ) → q < to - from → run_rule kind n from previous run q ≡ after_in kind n records (from + q)
  unfolding run_rule
  rule-at zero h = rw (same 0 h) (⊎_elim first later (below_or from 1))
    where
      asked : List ℕ → Bool
      asked p = after_rule kind n (from + 0) p (record_in records (from + 0))

      first : from < 1 → asked previous ≡ asked (record_in records (from + 0 - 1))
      first l = let z : from + 0 ≡ 0 = omega arith in rw z (first-after kind n _ _ _)

      later : 1 ≤ from → asked previous ≡ asked (record_in records (from + 0 - 1))
      later l = rw (add-zero, before l)
  rule-at (suc q) h =
      let back : from + suc q - 1 ≡ from + q = omega arith in
      rw (same (suc q) h, same q (omega arith), back)

  -- the search of the run, as places of the list
  pub run-after : from + first_bad_of_run kind n from previous run ≡ first_bad (after_in kind n records) (to - from) from
  run-after =
      let size = record_size n.edition kind in
      let count : length run / size ≡ to - from = ap (λ (k : ℕ). k / size) long ∙ mul-div_right (to - from) (size-some n.edition kind) in
      let alike = bad-same-on (run_rule kind n from previous run) (λ q. after_in kind n records (from + q)) (to - from) 0
      (λ q low high. rule-at q (omega arith)) in
      ap (λ (k : ℕ). from + first_bad (run_rule kind n from previous run) k 0) count ∙ ap (λ (k : ℕ). from + k) alike
      ∙ sym (bad-shift (after_in kind n records) from (to - from) 0) ∙ ap (first_bad (after_in kind n records) (to - from)) (add-zero from)

-- both rules: where the first fails first, and before that the second
pub record-both : (kind : Kind) (n : Counts) (records : List (List ℕ)) (count k : ℕ)
    → first_bad (rule_of kind n records) count k ≡ first_bad (fresh_rule kind n records) (first_bad (after_in kind n records) count k - k) k
unfolding rule_of
record-both kind n records count k = bad-both (after_in kind n records) (fresh_rule kind n records) count k

-- up to the first component that breaks that rule every name keeps the rule of its field
pub names-kept : (n : Counts) (records : List (List ℕ)) (from count : ℕ) → NamesKept records from
    → NamesKept records (first_bad (after_in Component n records) count from)
names-kept n records from count names =
    record {
      each = λ j h. ⊎_elim (λ l. names.each j l)
          (λ l. let q = parts _ _ (good-before (after_in Component n records) count from j l h) in shape-named _ _ _ _ q.0) (below_or j from);
    }

-- ---- a block of the kind
block-begins : (shape : Shape) → Roomy shape → (d : ℕ) → record_offset shape (shape.capacity * d) ≡ 512 * (shape.first + d) + 4
unfolding record_offset
block-begins shape roomy d = rw (mul-div_right d roomy.some, mul-mod_right shape.capacity d, mul-zero, add-zero)

module _ (im : List ℕ) (kind : Kind) (b : ℕ) (of : OfKind im kind b) where
  pub holds-it : contents_of im b ≡ held kind (shape_of im kind) b
  unfolding contents_of
  holds-it = rw (kind-of im kind b of.low of.high)

  abbrev capacity : ℕ
  capacity = capacity_of (edition_of im) kind

  abbrev first : ℕ
  first = capacity * (b - first_block im kind)

  abbrev pub held_to : ℕ
  held_to = min (count_of im kind) (first + capacity)

  one : OneBlock im kind (512 * b + 4) first held_to
  one =
      let back : first_block im kind + (b - first_block im kind) ≡ b = omega (arith, of.low) in
      let slot : record_slot (shape_of im kind) first ≡ 0 = mul-mod_right capacity (b - first_block im kind) in
      record {
        begins = sym (block-begins (shape_of im kind) (shape-roomy im kind) (b - first_block im kind) ∙ ap (λ (c : ℕ). 512 * c + 4) back);
        upto = rw slot (omega arith);
      }

  pub some-held : first < count_of im kind
  some-held = from-among (shape_of im kind) (shape-roomy im kind) b of.low of.high

  pub run_room : Fitted im → 512 * b + 4 + record_size (edition_of im) kind * (held_to - first) ≤ length im
  run_room fit =
      let room = room_for (shape_of im kind) (shape-roomy im kind) (held_to - first) (omega arith) in
      omega (arith, block_inside im b fit (omega (arith, of.high, blocks-among im kind)))

  run-same : (q : ℕ) → q < held_to - first
      → run_record (record_size (edition_of im) kind) (part im (512 * b + 4) (record_size (edition_of im) kind * (held_to - first))) q
      ≡ record_in (records_of im kind) (first + q)
  unfolding record_at
  run-same q h =
      let s : ℕ = record_size (edition_of im) kind in
      let m : s * suc q ≤ s * (held_to - first) = mul-le-mul_left s h in
      let fits : s * q + s ≤ s * (held_to - first) = rw (mul-suc s q) at m in
      let e : first + q - first ≡ q = omega arith in
      let at = one_block im kind (512 * b + 4) first held_to (first + q) one (omega arith) (omega arith) in
      part-part im (512 * b + 4) (s * (held_to - first)) (s * q) s fits
      ∙ ap (λ (k : ℕ). part im k s) (ap (λ (k : ℕ). 512 * b + 4 + s * k) (sym e) ∙ at)
      ∙ sym (record_of im kind (first + q) (omega arith))

  pub block_run : Fitted im → RunOf im kind first held_to (part im (512 * b + 4) (record_size (edition_of im) kind * (held_to - first)))
  block_run fit = record { long = part_length im _ _ (run_room fit); same = run-same }

-- the last record of the block before it, as code finds it
pub before-block : (im : List ℕ) (kind : Kind) (b : ℕ) → OfKind im kind b → 1 ≤ capacity_of (edition_of im) kind * (b - first_block im kind)
    → part im (512 * (b - 1) + 4 + record_size (edition_of im) kind * (capacity_of (edition_of im) kind - 1)) (record_size (edition_of im) kind)
    ≡ record_in (records_of im kind) (capacity_of (edition_of im) kind * (b - first_block im kind) - 1)
unfolding record_at
before-block im kind b of some =
    let c : ℕ = capacity_of (edition_of im) kind in
    let s : ℕ = record_size (edition_of im) kind in
    let f : ℕ = first_block im kind in
    let roomy = shape-roomy im kind in
    let later : f < b =
    ⊎_elim (λ l. l) (λ l. let z : b - f ≡ 0 = omega arith in absurd (omega (arith, ap (λ (d : ℕ). c * d) z, mul-zero c))) (below_or f b) in
    let d : ℕ = b - 1 - f in
    let more : b - f ≡ suc d = omega arith in
    let whole : c * (b - f) ≡ c * d + c = ap (λ (k : ℕ). c * k) more ∙ mul-suc c d in
    let back : f + d ≡ b - 1 = omega arith in
    let slot : record_slot (shape_of im kind) (c * d) ≡ 0 = mul-mod_right c d in
    let one : OneBlock im kind (512 * (b - 1) + 4) (c * d) (c * d + c) =
    record {
      begins = sym (block-begins (shape_of im kind) roomy d ∙ ap (λ (k : ℕ). 512 * k + 4) back);
      upto = rw slot (omega arith);
    } in
    let last : c * (b - f) - 1 - c * d ≡ c - 1 = omega arith in
    let at = one_block im kind (512 * (b - 1) + 4) (c * d) (c * d + c) (c * (b - f) - 1) one (omega (arith, roomy.some)) (omega (arith, roomy.some)) in
    ap (λ (k : ℕ). part im k s) (ap (λ (k : ℕ). 512 * (b - 1) + 4 + s * k) (sym last) ∙ at)
    ∙ sym (record_of im kind (c * (b - f) - 1) (omega (arith, some-held im kind b of)))

-- ---- as code takes them
pub of-needed : (im : List ℕ) (kind : Kind) (b : ℕ) → OfKind im kind b → (1 ≤ b) × (b < blocks_needed im)
of-needed im kind b of = (omega (arith, of.low, blocks-after im kind), omega (arith, of.high, blocks-among im kind))

pub run-taken : (im : List ℕ) (kind : Kind) (b from to end : ℕ) → Fitted im → (of : OfKind im kind b)
    → from ≡ (held kind (shape_of im kind) b).from → to ≡ (held kind (shape_of im kind) b).to → end ≡ (held kind (shape_of im kind) b).end
    → RunOf im kind from to (take (512 * b + end - (512 * b + 4)) (drop (512 * b + 4) im))
run-taken im kind b from to end fit of f t e =
    let size : ℕ = record_size (edition_of im) kind * ((held kind (shape_of im kind) b).to - (held kind (shape_of im kind) b).from) in
    let cut : 512 * b + end - (512 * b + 4) ≡ size = omega arith in
    rw (cut, f, t) (block_run im kind b of fit)

module _ (im : List ℕ) (kind : Kind) (shape : Shape) (b : ℕ) (s : Shaped im kind shape) (of : OfKind im kind b) where
  pub before-room : Fitted im → 512 * (b - 1) + 4 + shape.size * (shape.capacity - 1) + shape.size + 2 ≤ length im
  before-room fit =
      let whole : suc (shape.capacity - 1) ≡ shape.capacity = omega (arith, s.roomy.some) in
      let room : shape.size * (shape.capacity - 1) + shape.size ≡ shape.size * shape.capacity =
      sym (mul-suc shape.size (shape.capacity - 1)) ∙ ap (λ (k : ℕ). shape.size * k) whole in
      let n = of-needed im kind b of in
      omega (arith, s.roomy.room, block_inside im b fit n.1, n.0)

  pub before-long : Fitted im
      → let at = 512 * (b - 1) + 4 + shape.size * (shape.capacity - 1) in
      record_size One kind ≤ length (take (at + shape.size - at) (drop at im))
  before-long fit =
      let at : ℕ = 512 * (b - 1) + 4 + shape.size * (shape.capacity - 1) in
      let long : length (part im at shape.size) ≡ shape.size = part_length im at shape.size (omega (arith, before-room fit)) in
      let least : record_size One kind ≤ shape.size = rw s.is (size-least (edition_of im) kind) in
      rw (add-sub_cancel_left, long) least

pub before-taken : (im : List ℕ) (kind : Kind) (shape : Shape) (b : ℕ) → shape ≡ shape_of im kind → OfKind im kind b
    → let at = 512 * (b - 1) + 4 + shape.size * (shape.capacity - 1) in
    1 ≤ shape.capacity * (b - shape.first)
    → take (at + shape.size - at) (drop at im) ≡ record_in (records_of im kind) (shape.capacity * (b - shape.first) - 1)
before-taken im kind shape b is of = rw is (λ some. rw add-sub_cancel_left (before-block im kind b of some))
