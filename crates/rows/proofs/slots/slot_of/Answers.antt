use mathlib.Core.Path.{refl}
use native.Mathlib.Omega.{arith}
use Rattle.rows.specs.Slots.{own_slot}
use Rattle.rows.proofs.slots.slot_of.Goals as goal

pub returns : goal.returns
unfolding own_slot
returns c = (refl, omega arith)
