use Rattle.std.proofs.Common.{◌≡◌}
use Rattle.fields.specs.Scan.{first_bad}
use Rattle.records.specs.LabelRuns.{tag_limited}
use Rattle.records.proofs.label_run.first_above.Given as goal

-- the labels from place j on are passed
abbrev pub invariant-loop-j : goal.invariant-loop-j
invariant-loop-j l = first_bad (tag_limited l.size l.run) l.j 0 ≡ first_bad (tag_limited l.size l.run) l.n 0
