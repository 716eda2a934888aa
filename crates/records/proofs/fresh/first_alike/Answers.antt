use Rattle.std.proofs.Common.{◌≡◌, true, false, not, sym, ap, ◌∙◌, arith}
use Rattle.fields.proofs.Scan.{loop-bad, loop-good}
use Rattle.records.specs.Fresh.{alike}
use Rattle.records.specs.Rules.{run_record}
use Rattle.records.proofs.Running.{turn-at, part-is, ended}
use Rattle.records.proofs.fresh.first_alike.Goals as goal

pub returns-then-is_alike : goal.returns-then-is_alike
returns-then-is_alike c =
    let is = part-is (turn-at 40 _ _ (omega arith) c.requires c.loop-k-test.true) in
    let found : alike c.args.field (run_record 40 c.args.run.now c.loop-k.k) ≡ true =
    ap (alike c.args.field) (sym is) ∙ sym c.is_alike.ensures ∙ c.if-is_alike.true in
    loop-bad _ _ _ _ c.loop-k-test.true c.loop-k.invariant (ap not found)

pub loop-k-preserved : goal.loop-k-preserved
loop-k-preserved c =
    let is = part-is (turn-at 40 _ _ (omega arith) c.requires c.loop-k-test.true) in
    let found : alike c.args.field (run_record 40 c.args.run.now c.loop-k.k) ≡ false =
    ap (alike c.args.field) (sym is) ∙ sym c.is_alike.ensures ∙ c.if-is_alike.false in
    loop-good _ _ _ _ c.loop-k-test.true c.loop-k.invariant (ap not found)

pub returns : goal.returns
returns c = ended _ _ _ _ (omega arith) c.loop-k.invariant
