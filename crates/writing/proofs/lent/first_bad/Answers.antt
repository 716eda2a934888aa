use Prim.Native.Nat.{ℕ, ◌<◌}
use mathlib.Core.Path.{ap, ◌∙◌}
use native.Mathlib.Omega.{arith}
use lib.ListN.{length}
use Rattle.fields.specs.Scan.{first_bad}
use Rattle.header.specs.Layout.{record_size}
use Rattle.records.specs.Rules.{run_records, fresh_rule}
use Rattle.header.proofs.Editions.{size-least}
use Rattle.writing.proofs.LentRuns.{lent-upto, lent-names, lent_both, lent_none}
use Rattle.writing.proofs.lent.first_bad.Goals as goal

pub returns-then-records-size : goal.returns-then-records-size
unfolding first_bad
returns-then-records-size c =
    let a = c.args in
    let short : length a.records.now < record_size a.existing.counts.edition a.kind = omega (arith, c.size.ensures, c.if-records-size.true) in
    rw (lent_none a.kind a.existing.counts a.records.now c.requires.kind_len short)

pub first_bad_after-to-requires : goal.first_bad_after-to-requires
first_bad_after-to-requires c =
    let a = c.args in
    record {
      exist = (c.requires.exist.0, (c.requires.exist.1, omega arith));
      kind_len = (c.requires.kind_len, omega (arith, c.size.ensures, c.if-records-size.false, size-least a.existing.counts.edition a.kind));
    }

pub first_known-requires : goal.first_known-requires
first_known-requires c =
    let a = c.args in
    let whole = c.requires.kind_len in
    let found = c.first_bad_after-to.ensures in
    record {
      kind_len = (whole, omega (arith, found, lent-upto a.kind a.existing.counts a.records.now whole));
      names_kept = λ e. rw found (lent-names a.kind a.existing.counts a.records.now whole e);
    }

pub returns : goal.returns
returns c =
    let a = c.args in
    let records = run_records (record_size a.existing.counts.edition a.kind) a.records.now in
    c.first_known.ensures
    ∙ ap (λ (m : ℕ). first_bad (fresh_rule a.kind a.existing.counts records) m 0) c.first_bad_after-to.ensures
    ∙ lent_both a.kind a.existing.counts a.records.now c.requires.kind_len
