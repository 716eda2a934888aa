use Rattle.std.proofs.Common.{◌≡◌, ℕ, ◌*◌, ◌/◌, ◌%◌, ◌<◌, ◌≤◌, leb, List, length, ap, ◌∙◌, arith, leb-false}
use Rattle.sets.specs.Sets.{union}
use Rattle.sets.specs.Groups.{places_of}
use Rattle.header.specs.declared.edition.Edition.{Edition}
use Rattle.header.specs.declared.layout.Kind.TheVariants.{Label}
use Rattle.header.specs.Layout.{record_size}
use Rattle.header.proofs.Editions.{size-least}
use Rattle.records.proofs.FineLabels.{neither, gather-turn}
use Rattle.records.proofs.Running.{Turn, turn-at, part-is}
use Rattle.records.proofs.label_blocks.gather.Goals as goal

-- the turn at place j
module _ (edition : Edition) (size j : ℕ) (run : List ℕ) (is : size ≡ record_size edition Label) (whole : length run % size ≡ 0)
    (less : j < length run / size) where
  least : 24 ≤ size
  least = rw is (size-least edition Label)

  turn : Turn size run (size * j) j
  turn = turn-at size run j (omega (arith, least)) whole less

pub loop-j-preserved : goal.loop-j-preserved
loop-j-preserved c =
    let l = c.loop-j in
    let v = c.number4.result in
    let t = turn c.args.edition _ _ _ c.requires.0 c.requires.1 c.loop-j-test.true in
    let asked = neither (leb c.number4-tag.result l.last) (leb c.args.levels v) c.if-tag-last.false in
    let above = rw c.number4-tag.ensures at (leb-false c.number4-tag.result l.last asked.0) in
    let low = rw c.number4.ensures at (leb-false c.args.levels v asked.1) in
    gather-turn l.invariant _ (part-is t) above low _ _ _
    c.number4-tag.ensures
    (c.union-compartments.ensures ∙ ap (union l.compartments) c.number8.ensures)
    (c.union-groups.ensures ∙ ap (union (places_of l.groups)) c.group_set.ensures)
