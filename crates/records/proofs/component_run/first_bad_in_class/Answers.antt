use Rattle.std.proofs.Common.{ℕ, ◌+◌, sym, ap, ◌∙◌, ap₂, arith}
use Rattle.fields.proofs.Scan.{loop-bad, loop-good}
use Rattle.records.specs.Fields.{numeric_form}
use Rattle.records.specs.ComponentRuns.{component_after}
use Rattle.records.proofs.ComponentTests.{low-next}
use Rattle.records.proofs.Running.{turn-at, part-is, ended}
use Rattle.records.proofs.component_run.first_bad_in_class.Goals as goal

pub returns-then-not-component_fits : goal.returns-then-not-component_fits
returns-then-not-component_fits c =
    let is = part-is (turn-at 40 _ _ (omega arith) c.requires c.loop-j-test.true) in
    let fits = c.component_fits.ensures ∙ ap₂ (component_after c.args.asked) c.loop-j.invariant.low is in
    loop-bad _ _ _ _ c.loop-j-test.true c.loop-j.invariant.left (sym fits ∙ c.if-not-component_fits.true)

pub loop-j-preserved : goal.loop-j-preserved
loop-j-preserved c =
    let is = part-is (turn-at 40 _ _ (omega arith) c.requires c.loop-j-test.true) in
    let fits = c.component_fits.ensures ∙ ap₂ (component_after c.args.asked) c.loop-j.invariant.low is in
    let form = ap (λ (k : ℕ). k + 1) (c.number2-low.ensures.0 ∙ ap numeric_form is) in
    record {
      low = form ∙ low-next c.args.first c.args.run.now c.loop-j.j;
      left = loop-good _ _ _ _ c.loop-j-test.true c.loop-j.invariant.left (sym fits ∙ c.if-not-component_fits.false);
    }

pub returns : goal.returns
returns c = ended _ _ _ _ (omega arith) c.loop-j.invariant.left
