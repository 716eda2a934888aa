use Prim.Native.Nat.{◌-◌}
use mathlib.Core.Path.{◌≡◌}
use lib.ListN.{length, drop}
use Rattle.labels.specs.declared.shape.State.TheVariants.{Start}
use Rattle.labels.specs.States.{after_all}
use Rattle.labels.proofs.shape.after_all.Given as goal

abbrev pub invariant-loop-i : goal.invariant-loop-i
invariant-loop-i l = after_all l.state (drop l.i l.text) ≡ after_all Start l.text

abbrev pub decreases-loop-i : goal.decreases-loop-i
decreases-loop-i l = length l.text - l.i
