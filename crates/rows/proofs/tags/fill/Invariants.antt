use Prim.Native.Nat.{◌≤◌}
use Rattle.header.specs.Layout.{Standing}
use Rattle.rows.specs.Slots.{Holding}
use Rattle.rows.proofs.tags.fill.Given as goal

abbrev pub invariant-loop-p : goal.invariant-loop-p
invariant-loop-p l = (l.p ≤ l.shape.count) × (Standing l.shape l.p l.here × Holding l.image l.bits l.p l.slots)
