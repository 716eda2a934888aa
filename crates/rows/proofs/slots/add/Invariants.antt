use Prim.Native.Nat.{ℕ, ◌+◌, ◌≤◌, ◌<◌}
use mathlib.Core.Path.{◌≡◌}
use lib.ListN.{get_or}
use Rattle.rows.proofs.slots.add.Given as goal

abbrev pub invariant-loop-slot : goal.invariant-loop-slot
invariant-loop-slot l =
    (l.slots ≡ l.initial.slots) × ((l.own ≤ l.slot) × ((l.slot ≤ l.own + 96) × ((k : ℕ) → l.own ≤ k → k < l.slot → get_or l.initial.slots k 0 ≡ 0 → ⊥)))
