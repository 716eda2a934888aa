use Rattle.std.proofs.Common.{◌≡◌, ◌-◌}
use Rattle.fields.specs.Scan.{first_bad}
use Rattle.records.specs.LabelRuns.{tag_before, run_after}
use Rattle.records.proofs.label_run.first_wrong.Given as goal

-- what is left gives what the whole gives
abbrev pub invariant-loop-j : goal.invariant-loop-j
invariant-loop-j l =
    let rule = run_after l.existing.counts l.size l.first l.run in
    record {
      tag : l.before ≡ tag_before l.size l.first l.run l.j;
      left : first_bad rule (l.count - l.j) l.j ≡ first_bad rule l.count 0;
    }
