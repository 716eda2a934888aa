use native.Mathlib.Nat.{sub-zero, zero-add}
use native.Mathlib.Omega.{arith}
use Rattle.fields.proofs.PlacesWhere.{turn, turn_end}
use Rattle.header.proofs.Inside.{header-inside}
use Rattle.buffers.proofs.Left.{left-start, left-room, left-turn, left_end}
use Rattle.moves.specs.Holders.{is_holder, holder_at, holders}
use Rattle.moves.proofs.holders.put_holders.Goals as goal

pub users-count-requires : goal.users-count-requires
users-count-requires c = header-inside _ c.requires.0.fitted

pub loop-u-init : goal.loop-u-init
unfolding holders
loop-u-init c = left-start _ _ _ _ (rw (sub-zero, c.users-count.ensures.0))

pub put_holder-end-requires : goal.put_holder-end-requires
put_holder-end-requires c =
    let im = c.args.image.now in
    let u = c.loop-u.u in
    let step = turn (is_holder im) c.users-count.result u c.loop-u-test.true in
    record {
      counted = (c.requires.0, omega (arith, c.loop-u-test.true, c.users-count.ensures.0));
      u_in_bounds = left-room _ _ _ _ _ _ c.loop-u.invariant (holder_at im u) _ step (rw zero-add c.requires.1);
    }

pub loop-u-preserved : goal.loop-u-preserved
loop-u-preserved c =
    let im = c.args.image.now in
    let step = turn (is_holder im) c.users-count.result c.loop-u.u c.loop-u-test.true in
    left-turn _ _ _ _ _ _ c.loop-u.invariant _ _ step _ _ (rw zero-add c.requires.1) c.put_holder-end.ensures

pub returns : goal.returns
returns c = left_end _ _ _ _ _ _ c.loop-u.invariant (turn_end _ _ _ c.loop-u-test.false)
