-- A part of component records as a run: of one block of an image, or of a longer run. What is found in it is found there. Assumes nothing.
use Rattle.std.proofs.Common.{◌≡◌, ℕ, ◌+◌, ◌-◌, ◌*◌, ◌/◌, ◌%◌, ◌<◌, ◌≤◌, Bool, List, length, take, drop, sym, ap, ◌∙◌, arith}
use native.Mathlib.Nat.{add-sub_cancel_left, mul-mod_right}
use Rattle.fields.specs.Bytes.{part}
use Rattle.fields.specs.Scan.{first_bad}
use Rattle.fields.proofs.Laws.{part_length, part-part}
use Rattle.header.specs.declared.layout.Kind.TheVariants.{Component}
use Rattle.header.specs.Layout.{count_of, shape_of, record_offset, record_at, Fitted, OneBlock}
use Rattle.header.proofs.Inside.{record-inside, one_block}
use Rattle.records.specs.Rules.{record_in, run_record, run_records}
use Rattle.records.proofs.Parts.{run-bad, run-count, run-record}

-- the part of n records from byte `first` on, as code takes it
module _ (bytes : List ℕ) (first n : ℕ) where
  abbrev pub run_at : List ℕ
  run_at = part bytes first (40 * n)

  pub run-taken : take (first + 40 * n - first) (drop first bytes) ≡ run_at
  run-taken = rw add-sub_cancel_left

  -- it has whole records
  pub run-whole : first + 40 * n ≤ length bytes → length run_at % 40 ≡ 0
  run-whole h = ap (λ (k : ℕ). k % 40) (part_length bytes first (40 * n) h) ∙ mul-mod_right 40 n

-- from its first byte up to its last, of the records from `start` up to `end`
pub upto-taken : (bytes : List ℕ) (start end : ℕ) → take (40 * end - 40 * start) (drop (40 * start) bytes) ≡ run_at bytes (40 * start) (end - start)
upto-taken bytes start end =
    let long : 40 * end - 40 * start ≡ 40 * (end - start) = omega arith in
    ap (λ (n : ℕ). take n (drop (40 * start) bytes)) long

-- in one block of an image
module _ (im : List ℕ) (first from to : ℕ) (fit : Fitted im) (few : to ≤ count_of im Component) (some : from < to)
    (one : OneBlock im Component first from to) where
  begins : (q : ℕ) → q < to - from → first + 40 * q ≡ record_offset (shape_of im Component) (from + q)
  begins q h =
      let e : from + q - from ≡ q = omega arith in
      ap (λ (k : ℕ). first + 40 * k) (sym e) ∙ one_block im Component first from to (from + q) one (omega arith) (omega arith)

  pub block_inside : first + 40 * (to - from) ≤ length im
  block_inside =
      let last : ℕ = to - from - 1 in
      let e = begins last (omega arith) in
      omega (arith, record-inside im fit Component (from + last) (omega arith))

  held-is : (q : ℕ) → q < to - from → run_record 40 (run_at im first (to - from)) q ≡ record_at im Component (from + q)
  unfolding record_at
  held-is q h =
      part-part im first (40 * (to - from)) (40 * q) 40 (omega arith) ∙ ap (λ (k : ℕ). part im k 40) (begins q h)

  pub block-bad : (rule : List ℕ → Bool)
      → from + first_bad (λ q. rule (run_record 40 (run_at im first (to - from)) q)) (length (run_at im first (to - from)) / 40) 0
      ≡ first_bad (λ j. rule (record_at im Component j)) (to - from) from
  block-bad = run-bad _ (to - from) from (record_at im Component) (part_length im first (40 * (to - from)) block_inside) held-is

  -- the same of the run as code takes it
  abbrev taken : List ℕ
  taken = take (first + 40 * (to - from) - first) (drop first im)

  pub block-found : (rule : List ℕ → Bool)
      → from + first_bad (λ q. rule (run_record 40 taken q)) (length taken / 40) 0 ≡ first_bad (λ j. rule (record_at im Component j)) (to - from) from
  block-found rule = rw run-taken (block-bad rule)

-- in a run, the records from `start` up to `end`
module _ (bytes : List ℕ) (start end : ℕ) (low : start ≤ end) (whole : length bytes % 40 ≡ 0) (few : end ≤ length (run_records 40 bytes)) where
  upto : end ≤ length bytes / 40
  upto = rw (run-count 40 bytes) at few

  pub run_inside : 40 * start + 40 * (end - start) ≤ length bytes
  run_inside = let h = upto in omega arith

  part-is : (q : ℕ) → q < end - start → run_record 40 (run_at bytes (40 * start) (end - start)) q ≡ record_in (run_records 40 bytes) (start + q)
  part-is q h =
      let at : 40 * start + 40 * q ≡ 40 * (start + q) = omega arith in
      let i = upto in
      part-part bytes (40 * start) (40 * (end - start)) (40 * q) 40 (omega arith) ∙ ap (λ (k : ℕ). part bytes k 40) at
      ∙ sym (run-record 40 bytes (start + q) (omega arith))

  pub part-bad : (rule : List ℕ → Bool)
      → start + first_bad (λ q. rule (run_record 40 (run_at bytes (40 * start) (end - start)) q)) (length (run_at bytes (40 * start) (end - start)) / 40) 0
      ≡ first_bad (λ j. rule (record_in (run_records 40 bytes) j)) (end - start) start
  part-bad = run-bad _ (end - start) start (record_in (run_records 40 bytes)) (part_length bytes (40 * start) (40 * (end - start)) run_inside) part-is
