-- A loop over a run of records, one right after the other: where the record at place j stands, the record before it, and how a search for the
-- first that breaks a rule ends. The laws hold at any rule and any size of a record. Assumes nothing.
use Rattle.std.proofs.Common.{◌≡◌, ℕ, zero, suc, ◌+◌, ◌-◌, ◌*◌, ◌/◌, ◌%◌, ◌<◌, ◌≤◌, Bool, cond, ltb, List, length, take, drop, sym, refl, ap, ◌∙◌, mul-le-mul_left, mul-zero, mul-suc, arith, le-ltb, lt-ltb}
use native.Mathlib.Nat.{lt_of_mul-lt-mul_left, div-add-mod, add-sub_cancel_left}
use Rattle.fields.specs.Bytes.{part}
use Rattle.fields.specs.Scan.{first_bad}
use Rattle.fields.proofs.Laws.{part_length}
use Rattle.fields.proofs.Scan.{loop-end}
use Rattle.header.specs.declared.layout.Kind.{Kind}
use Rattle.header.specs.declared.counts.Counts.{Counts}
use Rattle.header.specs.Layout.{record_size}
use Rattle.records.specs.Rules.{run_record, after_rule, run_before, run_rule}

whole_run : (size : ℕ) (run : List ℕ) → length run % size ≡ 0 → size * (length run / size) ≡ length run
whole_run size run whole = let d = div-add-mod (length run) size in omega arith

-- a turn of the loop: the records are whole, and the one at place j is there
pub record Turn (size : ℕ) (run : List ℕ) (at j : ℕ) : Type 0 where
  pub some : 1 ≤ size
  pub whole : length run % size ≡ 0
  pub stands : at ≡ size * j
  pub more : at < length run

-- a loop over the places stands at place j, where that record begins
pub turn-at : (size : ℕ) (run : List ℕ) (j : ℕ) → 1 ≤ size → length run % size ≡ 0 → j < length run / size → Turn size run (size * j) j
turn-at size run j some whole less =
    let m : size * suc j ≤ size * (length run / size) = mul-le-mul_left size less in
    record { some = some; whole = whole; stands = refl; more = omega (arith, whole_run size run whole, mul-suc size j) }

module _ {size : ℕ} {run : List ℕ} {at j : ℕ} (t : Turn size run at j) where
  pub among : j < length run / size
  among = lt_of_mul-lt-mul_left size (rw (whole_run size run t.whole, ← t.stands) t.more)

  pub room : at + size ≤ length run
  room =
      let m : size * suc j ≤ size * (length run / size) = mul-le-mul_left size among in
      omega (arith, whole_run size run t.whole, mul-suc size j, t.stands)

  -- the part that code takes
  pub part-is : take (at + size - at) (drop at run) ≡ run_record size run j
  part-is = rw (add-sub_cancel_left, t.stands)

  pub part-long : length (take (at + size - at) (drop at run)) ≡ size
  part-long = rw add-sub_cancel_left (part_length run at size room)

-- a search over n places is past the last of them
pub ended : (rule : ℕ → Bool) (n j w : ℕ) → j ≡ n → first_bad rule (n - j) j ≡ w → n ≡ w
ended rule n j w e left = sym e ∙ loop-end rule n j w (omega arith) left

-- the size as code has it
pub resized : (rule : ℕ → Bool) (l j size other : ℕ) → size ≡ other → j ≡ first_bad rule (l / size) 0 → j ≡ first_bad rule (l / other) 0
resized rule l j size other is e = e ∙ ap (λ (s : ℕ). first_bad rule (l / s) 0) is

-- ---- the record before the one that begins at `at`, as code finds it
pub before-is : (size : ℕ) (previous run : List ℕ) (at j : ℕ) → 1 ≤ size → at ≡ size * j
    → cond (ltb at size) previous (part run (at - size) size) ≡ run_before size previous run j
before-is size previous run at zero some e =
    let first : at < size = omega (arith, mul-zero size) in
    rw (lt-ltb at size first)
before-is size previous run at (suc j) some e =
    let later : size ≤ at = omega (arith, mul-suc size j) in
    let back : at - size ≡ size * j = omega (arith, mul-suc size j) in
    rw (le-ltb at size later, back)

pub before-long : (size least : ℕ) (previous run : List ℕ) (j : ℕ) → least ≤ size → least ≤ length previous → size * j ≤ length run
    → least ≤ length (run_before size previous run j)
before-long size least previous run zero fits long upto = long
before-long size least previous run (suc j) fits long upto =
    rw (part_length run (size * j) size (omega (arith, mul-suc size j))) fits

-- what is asked of the two records as code has them is the rule of the run
pub run-rule : (kind : Kind) (n : Counts) (size k j : ℕ) (previous run before rec : List ℕ) → size ≡ record_size n.edition kind
    → before ≡ run_before size previous run j → rec ≡ run_record size run j
    → after_rule kind n (k + j) before rec ≡ run_rule kind n k previous run j
unfolding run_rule
run-rule kind n size k j previous run before rec is p q = rw (p, q, is)
