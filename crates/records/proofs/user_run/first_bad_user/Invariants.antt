use Rattle.std.proofs.Common.{◌≡◌, ◌-◌}
use Rattle.fields.specs.Scan.{first_bad}
use Rattle.header.specs.declared.layout.Kind.TheVariants.{User}
use Rattle.records.specs.Rules.{run_rule}
use Rattle.records.proofs.user_run.first_bad_user.Given as goal

-- what is left gives what the whole gives
abbrev pub invariant-loop-j : goal.invariant-loop-j
invariant-loop-j l =
    let rule = run_rule User l.existing.counts l.k l.previous l.run in
    first_bad rule (l.count - l.j) l.j ≡ first_bad rule l.count 0
