use Rattle.std.proofs.Common.{◌≡◌, ℕ, ◌-◌}
use Rattle.fields.specs.Scan.{first_where}
use Rattle.records.specs.Fresh.{alike}
use Rattle.records.specs.Rules.{run_record}
use Rattle.records.proofs.fresh.first_alike.Given as goal

-- what is left gives what the whole gives
abbrev pub invariant-loop-k : goal.invariant-loop-k
invariant-loop-k l =
    let same = λ (j : ℕ). alike l.field (run_record 40 l.run j) in
    first_where same (l.count - l.k) l.k ≡ first_where same l.count 0
