use mathlib.Core.Path.{◌≡◌, sym}
use native.Mathlib.Omega.{arith}
use Rattle.fields.proofs.Everywhere.{everywhere-none, everywhere-more}
use Rattle.fields.proofs.folded.same_part.Goals as goal

pub loop-j-init : goal.loop-j-init
loop-j-init c = sym (everywhere-none _ _)

pub loop-j-preserved : goal.loop-j-preserved
loop-j-preserved c =
    rw (c.loop-j.invariant, c.fold.ensures) (everywhere-more _ _ _)

pub returns : goal.returns
returns c =
    let l = c.loop-j in
    let all : l.j ≡ 16 = omega arith in
    rw all at l.invariant
