use Rattle.std.proofs.Common.{◌≡◌, ◌+◌, ◌-◌, ◌<◌, ◌≤◌}
use Rattle.fields.specs.Scan.{first_bad}
use Rattle.header.specs.declared.layout.Kind.TheVariants.{Component}
use Rattle.records.specs.ComponentRuns.{lowest_form}
use Rattle.records.specs.Rules.{run_before, run_rule}
use Rattle.records.proofs.component_run.first_bad_component.Given as goal

abbrev pub invariant-loop-j : goal.invariant-loop-j
invariant-loop-j l =
    (l.j ≤ l.n) × ((l.j < l.n → l.low ≡ lowest_form l.counts (l.k + l.j) (run_before 40 l.previous l.run l.j))
    × (first_bad (run_rule Component l.counts l.k l.previous l.run) (l.n - l.j) l.j ≡ first_bad (run_rule Component l.counts l.k l.previous l.run) l.n 0))

abbrev pub decreases-loop-j : goal.decreases-loop-j
decreases-loop-j l = l.n - l.j
