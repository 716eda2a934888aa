use Rattle.std.proofs.Common.{◌≡◌, ◌-◌, ◌≤◌}
use Rattle.fields.specs.Scan.{first_bad}
use Rattle.header.specs.declared.layout.Kind.TheVariants.{Component}
use Rattle.records.specs.Rules.{fresh_rule}
use Rattle.records.specs.Fresh.{components_in, Marked}
use Rattle.records.proofs.fresh.first_stale.Given as goal

-- the loop stands at place i; what is left gives what the whole gives
abbrev pub invariant-loop-i : goal.invariant-loop-i
invariant-loop-i l =
    let records = components_in l.source l.records in
    record {
      low : l.from ≤ l.i;
      upto : l.i ≤ l.to;
      marks : Marked l.counts records l.i l.seen;
      left : first_bad (fresh_rule Component l.counts records) (l.to - l.i) l.i
          ≡ first_bad (fresh_rule Component l.counts records) (l.to - l.from) l.from;
    }

abbrev pub decreases-loop-i : goal.decreases-loop-i
decreases-loop-i l = l.to - l.i
