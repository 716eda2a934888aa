use Rattle.std.proofs.Common.{◌≡◌, ℕ, ◌+◌, ◌-◌, ◌<◌, ◌≤◌, ◌∙◌, arith}
use Rattle.fields.specs.Scan.{first_bad}
use Rattle.fields.proofs.Scan.{loop-end, part-bad, part-good, bad-upto}
use Rattle.header.specs.declared.layout.Kind.TheVariants.{Component}
use Rattle.records.specs.Rules.{fresh_rule}
use Rattle.records.specs.Fresh.{components_in}
use Rattle.records.proofs.Marks.{class-marked, class-fresh, part-holds}
use Rattle.records.proofs.fresh.first_stale.Goals as goal

pub stale_in_class-bad-requires : goal.stale_in_class-bad-requires
stale_in_class-bad-requires c =
    let l = c.loop-i in
    let class = c.class_left.ensures in
    let begins = c.class_start-start.ensures in
    let end : ℕ = l.i + c.class_left.result in
    let more : l.i < end = omega (arith, class.more) in
    let upto : end ≤ c.args.to = omega (arith, class.upto, c.loop-i-test.true) in
    record {
      whole = (c.requires.whole.0, (begins.1, (omega arith, omega (arith, c.requires.whole.1.1))));
      holds_from = part-holds c.requires.holds_from l.i end l.invariant.low (omega arith) upto;
      names_kept = (record { each = λ j h. c.requires.names_kept.0.each j (omega arith) }, rw begins.0 l.invariant.marks);
    }

pub returns-then-bad-end : goal.returns-then-bad-end
returns-then-bad-end c =
    let l = c.loop-i in
    let a = c.args in
    let records = components_in a.source a.records.now in
    let class = c.class_left.ensures in
    let end : ℕ = l.i + c.class_left.result in
    let more : l.i < end = omega (arith, class.more) in
    let upto : end ≤ a.to = omega (arith, class.upto, c.loop-i-test.true) in
    let found : c.stale_in_class-bad.result ≡ first_bad (fresh_rule Component a.counts records) (end - l.i) l.i =
    c.stale_in_class-bad.ensures.value ∙ class-fresh a.counts records l.i _ end class _ c.class_start-start.ensures.0 in
    record {
      value = part-bad _ _ _ _ _ _ (omega arith) upto l.invariant.left found c.if-bad-end.true;
      marked = λ w. absurd (omega (arith, c.if-bad-end.true, upto, w));
    }

pub loop-i-preserved : goal.loop-i-preserved
loop-i-preserved c =
    let l = c.loop-i in
    let a = c.args in
    let records = components_in a.source a.records.now in
    let class = c.class_left.ensures in
    let end : ℕ = l.i + c.class_left.result in
    let low : l.i ≤ end = omega (arith, class.more) in
    let upto : end ≤ a.to = omega (arith, class.upto, c.loop-i-test.true) in
    let fresh = fresh_rule Component a.counts records in
    let found : c.stale_in_class-bad.result ≡ first_bad fresh (end - l.i) l.i =
    c.stale_in_class-bad.ensures.value ∙ class-fresh a.counts records l.i _ end class _ c.class_start-start.ensures.0 in
    let whole : c.stale_in_class-bad.result ≡ end = omega (arith, found, bad-upto fresh (end - l.i) l.i, c.if-bad-end.false) in
    record {
      low = omega (arith, l.invariant.low);
      upto = upto;
      marks = class-marked a.counts records l.i _ end class _ c.class_start-start.ensures.0 _ (c.stale_in_class-bad.ensures.marked_from whole);
      left = part-good _ _ _ _ _ _ low upto l.invariant.left found c.if-bad-end.false;
    }

pub returns : goal.returns
returns c =
    let l = c.loop-i in
    record { value = loop-end _ _ _ _ c.loop-i-test.false l.invariant.left; marked = λ e. rw e at l.invariant.marks }
