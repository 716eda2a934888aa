use native.Mathlib.Omega.{arith}
use mathlib.Core.Path.{refl}
use Rattle.header.specs.Layout.{record_at}
use Rattle.buffers.proofs.Left.{left-start, left-room, left-turn, left_end}
use Rattle.moves.specs.Moved.{new_record}
use Rattle.moves.proofs.Steps.{run_step, run_end, new-long}
use Rattle.moves.proofs.packing.put_records.Goals as goal

pub loop-i-init : goal.loop-i-init
loop-i-init g c = left-start _ _ _ _ refl

pub put_record-end-requires : goal.put_record-end-requires
put_record-end-requires g c =
    let fitted = c.requires.fitted in
    let im = c.args.image.now in
    let kind = c.args.kind in
    let which = g.S.Step.which in
    let i = c.loop-i.i in
    let step = run_step which im kind i _ c.loop-i-test.true fitted.1.1 in
    let fits = left-room _ _ _ _ _ _ c.loop-i.invariant (new_record which kind (record_at im kind i)) _ step c.requires.to_in_bounds in
    record {
      fitted = (fitted.0, (fitted.1.0, omega arith));
      kind_in_bounds = rw (new-long which im kind fitted.0 fitted.1.0 i (omega arith)) at fits;
    }

pub loop-i-preserved : goal.loop-i-preserved
loop-i-preserved g c =
    let step = run_step g.S.Step.which _ _ _ _ c.loop-i-test.true c.requires.fitted.1.1 in
    left-turn _ _ _ _ _ _ c.loop-i.invariant _ _ step _ _ c.requires.to_in_bounds c.put_record-end.ensures

pub returns : goal.returns
returns g c = left_end _ _ _ _ _ _ c.loop-i.invariant (run_end g.S.Step.which _ _ _ _ c.loop-i-test.false)
