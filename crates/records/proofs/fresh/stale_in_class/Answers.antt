use Rattle.std.proofs.Common.{◌≡◌, sym, ◌∙◌, arith}
use Rattle.fields.proofs.Scan.{loop-bad, loop-good}
use Rattle.records.proofs.Running.{ended}
use Rattle.records.proofs.fresh.stale_in_class.Goals.{then-from-start, else-from-start}
use Rattle.records.proofs.fresh.stale_in_class.Goals as goal

pub returns-then-not-is_fresh : goal.returns-then-not-is_fresh
returns-then-not-is_fresh c =
    let l = c.loop-i in
    record {
      value = loop-bad _ _ _ _ c.loop-i-test.true l.invariant.left (sym c.is_fresh.ensures.value ∙ c.if-not-is_fresh.true);
      marked_from = λ e. absurd (omega (arith, c.loop-i-test.true, e));
    }

pub loop-i-preserved : goal.loop-i-preserved
loop-i-preserved c =
    let l = c.loop-i in
    let inv = l.invariant in
    let more = c.loop-i-test.true in
    record {
      low = omega arith;
      upto = omega arith;
      marks = c.is_fresh.ensures.marked_from;
      left = loop-good _ _ _ _ more inv.left (sym c.is_fresh.ensures.value ∙ c.if-not-is_fresh.false);
    }

pub returns : goal.returns
returns c =
    let l = c.loop-i in
    let end : l.i ≡ c.args.to = omega (arith, l.invariant.upto) in
    record { value = ended _ _ _ _ end l.invariant.left; marked_from = λ e. rw end at l.invariant.marks }
