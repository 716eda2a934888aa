use Rattle.std.proofs.Common.{◌≡◌, ℕ, ◌*◌, ◌/◌, ◌%◌, ◌<◌, ◌≤◌, List, length, sym, ap, ◌∙◌, ap₂, arith}
use Rattle.fields.proofs.Scan.{loop-bad, loop-good}
use Rattle.header.specs.declared.counts.Counts.{Counts}
use Rattle.header.specs.declared.layout.Kind.TheVariants.{Label}
use Rattle.header.specs.Layout.{record_size}
use Rattle.header.proofs.Editions.{size-least}
use Rattle.records.specs.Fields.{tag_of}
use Rattle.records.specs.LabelRuns.{label_after}
use Rattle.records.proofs.LabelTests.{tag-next}
use Rattle.records.proofs.Running.{Turn, turn-at, part-is, ended}
use Rattle.records.proofs.label_run.first_wrong.Goals as goal

-- the turn at place j
module _ (n : Counts) (size j : ℕ) (run : List ℕ) (is : size ≡ record_size n.edition Label) (whole : length run % size ≡ 0) (less : j < length run / size) where
  least : 24 ≤ size
  least = rw is (size-least n.edition Label)

  turn : Turn size run (size * j) j
  turn = turn-at size run j (omega (arith, least)) whole less

pub returns-then-not-label_ok : goal.returns-then-not-label_ok
returns-then-not-label_ok c =
    let n = c.args.existing.counts in
    let is = part-is (turn n _ _ _ c.requires.size_value.0 c.requires.size_value.1 c.loop-j-test.true) in
    let asked = c.label_ok.ensures ∙ ap₂ (label_after n) c.loop-j.invariant.tag is in
    loop-bad _ _ _ _ c.loop-j-test.true c.loop-j.invariant.left (sym asked ∙ c.if-not-label_ok.true)

pub loop-j-preserved : goal.loop-j-preserved
loop-j-preserved c =
    let n = c.args.existing.counts in
    let is = part-is (turn n _ _ _ c.requires.size_value.0 c.requires.size_value.1 c.loop-j-test.true) in
    let asked = c.label_ok.ensures ∙ ap₂ (label_after n) c.loop-j.invariant.tag is in
    record {
      tag = c.number4-before.ensures ∙ ap tag_of is ∙ tag-next c.args.size c.args.first c.args.run.now c.loop-j.j;
      left = loop-good _ _ _ _ c.loop-j-test.true c.loop-j.invariant.left (sym asked ∙ c.if-not-label_ok.false);
    }

pub returns : goal.returns
returns c = ended _ _ _ _ (omega arith) c.loop-j.invariant.left
