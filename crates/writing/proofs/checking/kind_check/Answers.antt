use Prim.Native.Nat.{ℕ, ◌/◌}
use mathlib.Core.Path.{◌≡◌, sym, ap, ◌∙◌}
use mathlib.Core.List.{List}
use Rattle.std.proofs.Common.{Ok}
use lib.ListN.{length}
use Rattle.header.specs.Layout.{record_size}
use Rattle.records.specs.Rules.{rule_of, run_records}
use Rattle.writing.specs.declared.answers.LentFault.TheVariants.{Record}
use Rattle.records.proofs.BlockRuns.{size-some}
use Rattle.records.proofs.Parts.{run-count}
use Rattle.writing.proofs.Faults.{told_here, told-after, counted-bad}
use Rattle.writing.proofs.checking.kind_check.Goals as goal

-- the number of records, as code has it
counted : (size told : ℕ) (bytes : List ℕ) → told ≡ size → length (run_records size bytes) ≡ length bytes / told
counted size told bytes e = run-count size bytes ∙ ap (λ (s : ℕ). length bytes / s) (sym e)

pub nonzero_div-records : goal.nonzero_div-records
nonzero_div-records c = rw c.size.ensures (size-some c.args.existing.counts.edition c.args.kind)

pub returns-then-i-records : goal.returns-then-i-records
returns-then-i-records c =
    let a = c.args in
    let n = a.existing.counts in
    let size = record_size n.edition a.kind in
    let rule = rule_of a.kind n (run_records size a.records.now) in
    let place = counted-bad rule (run-count size a.records.now) c.first_bad-i.ensures in
    sym (told_here (Record a.kind) (Ok tt) _ _ (counted size _ a.records.now c.size.ensures) place c.if-i-records.true)

pub returns : goal.returns
returns c =
    let a = c.args in
    let n = a.existing.counts in
    let size = record_size n.edition a.kind in
    let rule = rule_of a.kind n (run_records size a.records.now) in
    let place = counted-bad rule (run-count size a.records.now) c.first_bad-i.ensures in
    sym (told-after (Record a.kind) (Ok tt) _ _ (counted size _ a.records.now c.size.ensures) place c.if-i-records.false)
