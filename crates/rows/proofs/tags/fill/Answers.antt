use Prim.Native.Nat.{◌+◌, ◌≤◌, ◌<◌}
use mathlib.Core.Path.{◌≡◌, sym, ap, subst, ◌∙◌}
use mathlib.Core.Bool.{false≢true}
use native.Mathlib.Omega.{arith}
use Rattle.header.specs.declared.layout.Kind.TheVariants.{Label}
use Rattle.header.specs.declared.layout.Shape.{Shape}
use Rattle.header.specs.Layout.{labels, label_record}
use Rattle.header.proofs.Inside.{header-inside, record-upto}
use Rattle.records.specs.Fields.{tag_of}
use Rattle.image.proofs.Accepted.{accepted-counted}
use Rattle.image.proofs.Policy.{label_kept}
use Rattle.rows.specs.Slots.{Holding}
use Rattle.rows.proofs.CompleteTags.{holding-pass, holding-add, holding-end}
use Rattle.rows.proofs.tags.fill.Goals as goal
use Rattle.rows.proofs.tags.fill.Goals.{then-bit_of+else-not-add, else-bit_of}

pub shape_of-shape-requires : goal.shape_of-shape-requires
shape_of-shape-requires c = header-inside _ (accepted-counted _ c.requires.mapping.accepted).fitted

pub record_at-here-requires : goal.record_at-here-requires
record_at-here-requires c =
    let s = c.shape_of-shape.ensures in
    let fitted = (accepted-counted _ c.requires.mapping.accepted).fitted in
    (s.roomy, rw s.is (omega (arith, record-upto _ fitted Label 0 (omega arith))))

pub loop-p-init : goal.loop-p-init
loop-p-init c =
    (omega arith, (c.record_at-here.ensures, c.requires.holding))

pub bit_of-requires : goal.bit_of-requires
bit_of-requires c =
    omega (arith, ap (λ (x : Shape). x.count) c.shape_of-shape.ensures.is, c.loop-p-test.true, c.requires.mapping.enough)

pub placed_part-requires : goal.placed_part-requires
placed_part-requires c =
    let s = c.shape_of-shape.ensures in
    let inside : c.loop-p.p < labels c.args.image.now = omega (arith, ap (λ (x : Shape). x.count) s.is, c.loop-p-test.true) in
    ((accepted-counted _ c.requires.mapping.accepted).fitted, (s, (inside, c.loop-p.invariant.1.0.begins)))

pub add-requires : goal.add-requires
add-requires c =
    let im = c.args.image.now in
    let p = c.loop-p.p in
    let inside : p < labels im = omega (arith, ap (λ (x : Shape). x.count) c.shape_of-shape.ensures.is, c.loop-p-test.true) in
    let tag : c.number4-tag.result ≡ tag_of (label_record im p) = c.number4-tag.ensures ∙ ap tag_of c.placed_part.ensures.0 in
    (omega (arith, (label_kept im c.requires.mapping.accepted p inside).tag_some), c.loop-p.invariant.1.1.long)

pub returns-then-not-add : goal.returns-then-not-add
returns-then-not-add c = λ e. absurd (false≢true e)

pub next_record-here-requires : goal.next_record-here-requires
next_record-here-requires c =
    let s = c.shape_of-shape.ensures in
    let fitted = (accepted-counted _ c.requires.mapping.accepted).fitted in
    let inside : c.loop-p.p ≤ labels c.args.image.now = omega (arith, ap (λ (x : Shape). x.count) s.is, c.loop-p-test.true) in
    (s.roomy, (c.loop-p.invariant.1.0, rw s.is (omega (arith, record-upto _ fitted Label c.loop-p.p inside))))

pub loop-p-preserved : goal.loop-p-preserved
loop-p-preserved c =
    let im = c.args.image.now in
    let bits = c.args.bits.now in
    let p = c.loop-p.p in
    let holding = c.loop-p.invariant.1.1 in
    let inside : p < labels im = omega (arith, ap (λ (x : Shape). x.count) c.shape_of-shape.ensures.is, c.loop-p-test.true) in (
      omega (arith, c.loop-p-test.true),
      (
        c.next_record-here.ensures,
        elim c.if-bit_of.branch [
          | then-bit_of+else-not-add w ↦
              subst (Holding im bits (p + 1)) (sym w.slots-is)
              (holding-add im bits p _ holding c.requires.mapping.accepted inside (sym c.bit_of.ensures ∙ w.if-bit_of.true) _
              (w.number4-tag.ensures ∙ ap tag_of w.placed_part.ensures.0) _ (w.add.ensures w.if-not-add.false))
          | else-bit_of w ↦
              subst (Holding im bits (p + 1)) (sym w.slots-is) (holding-pass im bits p _ holding (sym c.bit_of.ensures ∙ w.if-bit_of.false))
        ],
      ),
    )

pub returns : goal.returns
returns c =
    let p = c.loop-p.p in
    let inv = c.loop-p.invariant in
    let last : p ≡ labels c.args.image.now = omega (arith, ap (λ (x : Shape). x.count) c.shape_of-shape.ensures.is, c.loop-p-test.false, inv.0) in
    λ e. holding-end _ _ _ (rw last at inv.1.1)
