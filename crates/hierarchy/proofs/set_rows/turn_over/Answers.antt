use Prim.Native.Nat.{◌+◌, ◌*◌}
use mathlib.Core.Path.{◌≡◌}
use native.Mathlib.Omega.{arith}
use Rattle.hierarchy.proofs.PutSets.{turn-none, turn-next, turn_end}
use Rattle.hierarchy.proofs.set_rows.turn_over.Goals as goal

pub returns-then-count-le64 : goal.returns-then-count-le64
returns-then-count-le64 c =
    turn_end _ _ _ _ c.if-count-le64.true c.requires.0 (turn-next _ _ _ _ (omega arith) (turn-none _ c.requires.1) c.transpose.ensures)

pub loop-j-preserved : goal.loop-j-preserved
loop-j-preserved c =
    let next : 64 * (c.loop-j.j + 1) ≡ 64 * c.loop-j.j + 64 = omega arith in
    rw next (turn-next _ _ _ _ (omega (arith, c.requires.0)) c.loop-j.invariant c.transpose-in-loop-j.ensures)

pub returns : goal.returns
returns c = turn_end _ _ _ _ (omega arith) c.requires.0 c.loop-j.invariant
