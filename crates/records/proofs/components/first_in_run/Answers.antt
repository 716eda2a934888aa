use Rattle.std.proofs.Common.{◌≡◌, ℕ, Bool, not, List, ap, ◌∙◌, arith}
use Rattle.fields.specs.Names.{same_bytes}
use Rattle.fields.proofs.Scan.{loop-bad, loop-good}
use Rattle.records.specs.Fields.{component_name}
use Rattle.records.specs.Rules.{other_name, run_named, run_record}
use Rattle.records.proofs.Running.{turn-at, part-is, ended}
use Rattle.records.proofs.components.first_in_run.Goals as goal

-- what is asked of the record is the rule of its place
asked : (run name rec : List ℕ) (k : ℕ) (answer : Bool) → answer ≡ same_bytes (component_name rec) name → rec ≡ run_record 40 run k
    → run_named run name k ≡ not answer
unfolding other_name
asked run name rec k answer e is = rw (e, is)

pub returns-then-is_named : goal.returns-then-is_named
returns-then-is_named c =
    let is = part-is (turn-at 40 _ _ (omega arith) c.requires c.loop-k-test.true) in
    loop-bad _ _ _ _ c.loop-k-test.true c.loop-k.invariant (asked c.args.run.now _ _ c.loop-k.k _ c.is_named.ensures is ∙ ap not c.if-is_named.true)

pub loop-k-preserved : goal.loop-k-preserved
loop-k-preserved c =
    let is = part-is (turn-at 40 _ _ (omega arith) c.requires c.loop-k-test.true) in
    loop-good _ _ _ _ c.loop-k-test.true c.loop-k.invariant (asked c.args.run.now _ _ c.loop-k.k _ c.is_named.ensures is ∙ ap not c.if-is_named.false)

pub returns : goal.returns
returns c = ended _ _ _ _ (omega arith) c.loop-k.invariant
