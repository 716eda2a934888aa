use Rattle.std.proofs.Common.{◌≡◌, ◌-◌}
use Rattle.fields.specs.Scan.{first_bad}
use Rattle.records.specs.ComponentRuns.{low_at, run_asked}
use Rattle.records.proofs.component_run.first_bad_in_class.Given as goal

-- what is left gives what the whole gives
abbrev pub invariant-loop-j : goal.invariant-loop-j
invariant-loop-j l =
    let rule = run_asked l.asked l.first l.run in
    record { low : l.low ≡ low_at l.first l.run l.j; left : first_bad rule (l.count - l.j) l.j ≡ first_bad rule l.count 0 }
