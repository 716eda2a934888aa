use Rattle.std.proofs.Common.{◌+◌, ◌*◌, not, ◌&&◌, eqb, leb, sym, ap, ◌∙◌, arith, eqb-true, leb-true}
use native.Mathlib.Nat.{add-sub_cancel_left}
use borrow.Author.Tests.{not-false}
use Rattle.fields.proofs.Both.{parts}
use Rattle.sets.specs.Groups.{places_of}
use Rattle.sets.specs.Sets.{within}
use Rattle.records.proofs.FineLabels.{neither, fine-holds}
use Rattle.records.proofs.label_blocks.last_of_block.Goals as goal

pub returns-then-exist-all : goal.returns-then-exist-all
returns-then-exist-all c =
    let a = c.args in
    let e = c.requires.exist.0 in
    let found = c.gather_by-all.result in
    let value = 76 + 256 * a.shape.capacity in
    let told = neither (not (eqb c.number2.result value)) (not c.all_zero.result) c.if-number2-head.false in
    let exist = parts (c.within.result && c.within-2.result) (leb found.last 99999999) c.if-exist-all.true in
    let each = parts c.within.result c.within-2.result exist.0 in
    λ some. fine-holds a.existing.counts a.shape c.requires.size_value.1.0 c.requires.size_value.0 a.block.now c.requires.size_value.1.1
    (λ k. omega (arith, c.type_inv.block k))
    (sym c.number2.ensures.0 ∙ eqb-true _ _ (not-false _ told.0))
    (sym c.all_zero.ensures ∙ not-false _ told.1)
    a.before found.last found.compartments (places_of found.groups)
    (rw (add-sub_cancel_left, ← c.requires.size_value.0) at (c.gather_by-all.ensures some))
    (sym (c.within.ensures ∙ ap (within found.compartments) e.compartments) ∙ each.0)
    (sym (c.within-2.ensures ∙ ap (within (places_of found.groups)) e.groups) ∙ each.1)
    (leb-true found.last 99999999 exist.1)
