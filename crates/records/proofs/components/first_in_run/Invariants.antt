use Rattle.std.proofs.Common.{◌≡◌, ◌-◌}
use Rattle.fields.specs.Names.{in_letters}
use Rattle.fields.specs.Scan.{first_bad}
use Rattle.records.specs.Rules.{run_named}
use Rattle.records.proofs.components.first_in_run.Given as goal

-- what is left gives what the whole gives
abbrev pub invariant-loop-k : goal.invariant-loop-k
invariant-loop-k l =
    let named = run_named l.run (in_letters l.letters l.name) in
    first_bad named (l.count - l.k) l.k ≡ first_bad named l.count 0
