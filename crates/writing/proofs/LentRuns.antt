-- The records of a kind that are lent are one run, and its search gives the lowest that breaks a rule. Assumes nothing.
use Prim.Native.Nat.{ℕ, ◌+◌, ◌-◌, ◌*◌, ◌/◌, ◌%◌, ◌≤◌, ◌<◌}
use mathlib.Core.Path.{◌≡◌, sym, ap, ◌∙◌}
use mathlib.Core.List.{List}
use native.Mathlib.Nat.{zero-add, sub-zero, mul-one, div-add-mod, lt_of_mul-lt-mul_left}
use native.Mathlib.Omega.{arith}
use lib.ListN.{length}
use Rattle.fields.specs.Scan.{first_bad}
use Rattle.fields.proofs.Scan.{bad-upto}
use Rattle.header.specs.declared.counts.Counts.{Counts}
use Rattle.header.specs.declared.layout.Kind.{Kind}
use Rattle.header.specs.declared.layout.Kind.TheVariants.{Component}
use Rattle.header.specs.Layout.{record_size}
use Rattle.records.specs.Fresh.{NamesKept}
use Rattle.records.specs.Rules.{record_in, run_record, run_records, run_rule, rule_of, fresh_rule, first_bad_of_run}
use Rattle.records.proofs.BlockRuns.{after_in, run-after, record-both, names-kept}
use Rattle.records.proofs.Parts.{run-record}

module _ (kind : Kind) (n : Counts) (run : List ℕ) (whole : length run % record_size n.edition kind ≡ 0) where
  abbrev size : ℕ
  size = record_size n.edition kind

  abbrev records : List (List ℕ)
  records = run_records size run

  abbrev count : ℕ
  count = length run / size

  long : length run ≡ size * (count - 0)
  long = let d = div-add-mod (length run) size in rw sub-zero (omega arith)

  same : (q : ℕ) → q < count - 0 → run_record size run q ≡ record_in records (0 + q)
  same q h = sym (run-record size run q (omega arith)) ∙ ap (record_in records) (sym (zero-add q))

  lent-after : first_bad_of_run kind n 0 run run ≡ first_bad (after_in kind n records) count 0
  lent-after =
      let e = run-after kind n records 0 count run long same run (λ h. absurd (omega arith)) in
      sym (zero-add (first_bad_of_run kind n 0 run run)) ∙ e ∙ ap (λ (m : ℕ). first_bad (after_in kind n records) m 0) (sub-zero count)

  pub lent-upto : first_bad_of_run kind n 0 run run ≤ count
  lent-upto = omega (arith, bad-upto (run_rule kind n 0 run run) count 0)

  -- up to there every name of components keeps the rule of its field
  pub lent-names : kind ≡ Component → NamesKept (run_records 40 run) (first_bad_of_run kind n 0 run run)
  lent-names e =
      rw (lent-after, e) (names-kept n (run_records 40 run) 0 (length run / 40) (record { each = λ j h. absurd (omega arith) }))

  -- first what is asked of a record and the one before it, then names
  pub lent_both : first_bad (fresh_rule kind n records) (first_bad_of_run kind n 0 run run) 0 ≡ first_bad (rule_of kind n records) count 0
  lent_both =
      ap (λ (m : ℕ). first_bad (fresh_rule kind n records) m 0) (lent-after ∙ sym (sub-zero (first_bad (after_in kind n records) count 0)))
      ∙ sym (record-both kind n records count 0)

  -- where there are fewer bytes than a record has there is no record
  pub lent_none : length run < size → count ≡ 0
  lent_none h =
      let d = div-add-mod (length run) size in
      let l : size * count < size * 1 = rw mul-one (omega arith) in
      omega (arith, lt_of_mul-lt-mul_left size l)
