use Rattle.std.proofs.Common.{◌≡◌, ◌-◌, ◌≤◌}
use Rattle.fields.specs.Scan.{first_bad}
use Rattle.records.specs.Rules.{new_name_from}
use Rattle.records.specs.Fresh.{components_in, MarkedFrom}
use Rattle.records.proofs.fresh.stale_in_class.Given as goal

-- the loop stands at the record of place i; what is left gives what the whole gives
abbrev pub invariant-loop-i : goal.invariant-loop-i
invariant-loop-i l =
    let records = components_in l.source l.records in
    record {
      low : l.from ≤ l.i;
      upto : l.i ≤ l.to;
      marks : MarkedFrom records l.start l.i l.seen;
      left : first_bad (new_name_from l.start records) (l.to - l.i) l.i ≡ first_bad (new_name_from l.start records) (l.to - l.from) l.from;
    }
