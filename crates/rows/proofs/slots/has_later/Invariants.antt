use Prim.Native.Nat.{◌+◌, ◌-◌, ◌≤◌}
use mathlib.Core.Path.{◌≡◌}
use Rattle.rows.specs.Slots.{held_from}
use Rattle.rows.proofs.slots.has_later.Given as goal

abbrev pub invariant-loop-slot : goal.invariant-loop-slot
invariant-loop-slot l = (l.slot ≤ l.from + 95) × (held_from (l.from + 95 - l.slot) l.slots l.slot l.tag ≡ held_from 95 l.slots l.from l.tag)
