use native.Mathlib.Omega.{arith}
use Rattle.header.proofs.Inside.{header-inside}
use Rattle.image.proofs.Accepted.{accepted-counted}
use Rattle.lines.proofs.Turns.{filling-turn, filling-end, filling-full}
use Rattle.lines.proofs.parts.user_lines.Goals as goal

pub labels-count-requires : goal.labels-count-requires
labels-count-requires c = header-inside _ (accepted-counted _ c.requires.accepted).fitted

pub returns-then-buffer-length-lt43 : goal.returns-then-buffer-length-lt43
returns-then-buffer-length-lt43 c = filling-full _ _ _ _ c.loop-next.invariant (omega (arith, c.if-buffer-length-lt43.true))

pub loop-next-preserved : goal.loop-next-preserved
loop-next-preserved c =
    let pre = c.requires in
    let f = c.loop-next.invariant in
    filling-turn _ _ _ _ f pre.accepted pre.user (omega (arith, c.loop-next-test.true, c.labels-count.ensures.0))
    (omega (arith, c.if-buffer-length-lt43.false, f.inside, f.long)) c.line-length.ensures

pub returns : goal.returns
returns c =
    filling-end _ _ _ _ c.loop-next.invariant (omega (arith, c.loop-next-test.false, c.labels-count.ensures.0))
    (omega (arith, c.max.ensures, c.labels-count.ensures.0)) (omega (arith, c.max.ensures))
