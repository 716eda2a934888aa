use Prim.Native.Nat.{ℕ}
use mathlib.Core.Path.{◌≡◌, sym, ◌∙◌}
use mathlib.Core.List.{List}
use lib.ListN.{length}
use Rattle.std.proofs.Common.{Ok, Err}
use Rattle.refusals.proofs.Passed.{err-passed}
use Rattle.fields.specs.Scan.{first_bad}
use Rattle.header.specs.declared.counts.Counts.{Counts}
use Rattle.header.specs.declared.layout.Kind.{Kind}
use Rattle.header.specs.declared.layout.Kind.TheVariants.{Component, Label, User}
use Rattle.header.specs.Layout.{record_size}
use Rattle.records.specs.Rules.{rule_of, run_records}
use Rattle.writing.specs.declared.answers.LentFault.{LentFault}
use Rattle.writing.specs.declared.answers.LentFault.TheVariants.{Record}
use Rattle.writing.specs.Lent.{LentCheck, fault_at, kind_check, records_check}
use Rattle.writing.proofs.Faults.{none_first, fault_first}
use Rattle.writing.proofs.checking.records_check.Goals as goal

-- a kind's records, and what is told after them
module _ (n : Counts) (kind : Kind) (bytes : List ℕ) (after : LentCheck) where
  abbrev records : List (List ℕ)
  records = run_records (record_size n.edition kind) bytes

  abbrev bad : ℕ
  bad = first_bad (rule_of kind n records) (length records) 0

  passed : {r : LentCheck} → r ≡ kind_check n kind records → r ≡ Ok tt → fault_at bad (length records) (Record kind) after ≡ after
  passed told is = none_first bad (length records) (Record kind) after (sym told ∙ is)

  at_fault : {r : LentCheck} {f : LentFault} → r ≡ kind_check n kind records → r ≡ Err f
      → fault_at bad (length records) (Record kind) after ≡ Err f
  at_fault told is = fault_first bad (length records) (Record kind) after (sym told ∙ is)

pub kind_check-requires : goal.kind_check-requires
kind_check-requires c =
    record { exist = (c.requires.exist.0, c.requires.levels_bound.0); kind_len = c.requires.levels_bound.1 Component }

pub kind_check-requires-2 : goal.kind_check-requires-2
kind_check-requires-2 c =
    record { exist = (c.requires.exist.0, c.requires.levels_bound.0); kind_len = c.requires.levels_bound.1 Label }

pub kind_check-requires-3 : goal.kind_check-requires-3
kind_check-requires-3 c =
    record { exist = (c.requires.exist.0, c.requires.levels_bound.0); kind_len = c.requires.levels_bound.1 User }

pub returns-in_err-kind_check : goal.returns-in_err-kind_check
unfolding records_check
returns-in_err-kind_check c =
    let n = c.args.existing.counts in
    err-passed _ c.from_residual.ensures.1 ∙ sym (at_fault n Component c.args.lent.components.now _ c.kind_check.ensures c.in_err-kind_check.was)

pub returns-in_err-kind_check-2 : goal.returns-in_err-kind_check-2
unfolding records_check
returns-in_err-kind_check-2 c =
    let a = c.args in
    let n = a.existing.counts in
    err-passed _ c.from_residual-in_err-kind_check-2.ensures.1
    ∙ sym (passed n Component a.lent.components.now _ c.kind_check.ensures c.in_ok-kind_check.was
    ∙ at_fault n Label a.lent.labels.now _ c.kind_check-2.ensures c.in_err-kind_check-2.was)

pub returns-in_err-kind_check-3 : goal.returns-in_err-kind_check-3
unfolding records_check
returns-in_err-kind_check-3 c =
    let a = c.args in
    let n = a.existing.counts in
    err-passed _ c.from_residual-in_err-kind_check-3.ensures.1
    ∙ sym (passed n Component a.lent.components.now _ c.kind_check.ensures c.in_ok-kind_check.was
    ∙ passed n Label a.lent.labels.now _ c.kind_check-2.ensures c.in_ok-kind_check-2.was
    ∙ at_fault n User a.lent.users.now _ c.kind_check-3.ensures c.in_err-kind_check-3.was)

pub returns : goal.returns
unfolding records_check
returns c =
    let a = c.args in
    let n = a.existing.counts in
    c.groups_check.ensures
    ∙ sym (passed n Component a.lent.components.now _ c.kind_check.ensures c.in_ok-kind_check.was
    ∙ passed n Label a.lent.labels.now _ c.kind_check-2.ensures c.in_ok-kind_check-2.was
    ∙ passed n User a.lent.users.now _ c.kind_check-3.ensures c.in_ok-kind_check-3.was)
