use Rattle.std.proofs.Common.{◌-◌}
use Rattle.records.proofs.KindWalk.{Walk}
use Rattle.records.proofs.kinds.first_bad_of_kind.Given as goal

abbrev pub invariant-loop-from : goal.invariant-loop-from
invariant-loop-from l = Walk l.image l.kind l.shape l.b l.from l.seen

abbrev pub decreases-loop-from : goal.decreases-loop-from
decreases-loop-from l = l.shape.count - l.from
