use Prim.Native.Nat.{ℕ, ◌≤◌, ◌<◌}
use mathlib.Core.Path.{◌≡◌, refl}
use mathlib.Core.Bool.{true, false≢true}
use mathlib.Core.Logic.{⊎_elim}
use native.Mathlib.Omega.{arith}
use Rattle.fields.proofs.Both.{below_or}
use Rattle.rows.proofs.HeldTags.{added}
use Rattle.rows.proofs.slots.add.Goals as goal

pub loop-slot-init : goal.loop-slot-init
loop-slot-init c = (refl, (omega arith, (omega arith, λ k low high. absurd (omega arith))))

pub returns-then-slots-slot-eq0 : goal.returns-then-slots-slot-eq0
returns-then-slots-slot-eq0 c =
    let inv = c.loop-slot.invariant in
    let own = c.slot_of-own.ensures.0 in
    λ (yes : true ≡ true).
    rw inv.0
    (added _ _ _ (omega (arith, c.requires.1)) (rw inv.0 at c.if-slots-slot-eq0.true) c.requires.0 (rw (← own) inv.1.0)
    (rw (← own) c.loop-slot-test.true) (rw (← own) inv.1.1.1))

pub loop-slot-preserved : goal.loop-slot-preserved
loop-slot-preserved c =
    let inv = c.loop-slot.invariant in
    let slot = c.loop-slot.slot in (
      inv.0,
      (
        omega (arith, inv.1.0),
        (
          omega (arith, c.loop-slot-test.true),
          λ (k : ℕ) low high.
              ⊎_elim
              (λ (less : k < slot). inv.1.1.1 k low less)
              (λ (more : slot ≤ k) e. let same : slot ≡ k = omega arith in c.if-slots-slot-eq0.false (rw (inv.0, same) e))
              (below_or k slot),
        ),
      ),
    )

pub returns : goal.returns
returns c = λ e. absurd (false≢true e)
