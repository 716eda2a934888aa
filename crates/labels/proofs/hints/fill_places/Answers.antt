use Prim.Native.Nat.{ℕ, ◌+◌, ◌^◌, ◌≤◌, ◌<◌, zero-le}
use mathlib.Core.Path.{◌≡◌, subst, ◌∙◌}
use mathlib.Core.List.{List}
use native.Mathlib.Nat.{add-zero}
use native.Mathlib.Omega.{arith}
use lib.ListN.{length}
use Rattle.header.specs.declared.layout.Kind.TheVariants.{Component}
use Rattle.header.specs.declared.layout.Shape.{Shape}
use Rattle.header.specs.Layout.{counts_of, components, class_first, Shaped, record_offset, Standing}
use Rattle.header.specs.Limits.{Counted}
use Rattle.header.proofs.Inside.{header-inside, record-upto}
use Rattle.labels.specs.Parse.{class_count}
use Rattle.labels.proofs.Classes.{class-inside, class-limit}
use Rattle.labels.proofs.hints.fill_places.Goals as goal

-- the walk to the component at place p of the class stays in the image
walk_inside : (im : List ℕ) → Counted im → (class first : ℕ) → first ≡ class_first (counts_of im) class → (shape : Shape) → Shaped im Component shape
    → length im < 2 ^ 63 → (p : ℕ) → p ≤ class_count im class → record_offset shape (first + p) < 2 ^ 63
walk_inside im n class first is shape shaped small p h =
    let upto : first + p ≤ components im = omega (arith, class-inside im class) in
    rw shaped.is (omega (arith, record-upto im n.fitted Component (first + p) upto))

pub class_count-count-requires : goal.class_count-count-requires
class_count-count-requires c = header-inside _ c.requires.0.fitted

pub class_first-first-requires : goal.class_first-first-requires
class_first-first-requires c = header-inside _ c.requires.0.fitted

pub shape_of-shape-requires : goal.shape_of-shape-requires
shape_of-shape-requires c = header-inside _ c.requires.0.fitted

pub record_at-here-requires : goal.record_at-here-requires
record_at-here-requires c =
    let shaped = c.shape_of-shape.ensures in
    (shaped.roomy, rw add-zero at (walk_inside _ c.requires.0 c.args.class _ c.class_first-first.ensures.0 _ shaped (omega arith) 0 zero-le))

pub loop-p-init : goal.loop-p-init
loop-p-init c =
    (zero-le, (rw add-zero c.record_at-here.ensures, c.requires.1))

pub placed_part-rec-requires : goal.placed_part-rec-requires
placed_part-rec-requires c =
    let among = class-inside c.args.image.now c.args.class in
    (c.requires.0.fitted, (c.shape_of-shape.ensures, (omega (arith, among), c.loop-p.invariant.1.0.begins)))

pub overflow_cast-p : goal.overflow_cast-p
overflow_cast-p c =
    omega (arith, class-limit c.args.image.now c.args.class c.requires.0)

pub next_record-here-requires : goal.next_record-here-requires
next_record-here-requires c =
    let shaped = c.shape_of-shape.ensures in
    let p : c.loop-p.p ≤ class_count c.args.image.now c.args.class = omega arith in
    (shaped.roomy, (c.loop-p.invariant.1.0, walk_inside _ c.requires.0 c.args.class _ c.class_first-first.ensures.0 _ shaped (omega arith) _ p))

pub loop-p-preserved : goal.loop-p-preserved
loop-p-preserved c =
    let next : c.class_first-first.result + c.loop-p.p + 1 ≡ c.class_first-first.result + (c.loop-p.p + 1) = omega arith in (
      omega (arith, c.loop-p-test.true, c.class_count-count.ensures.0),
      (
        subst (λ (n : ℕ). Standing c.shape_of-shape.result n c.next_record-here.result) next c.next_record-here.ensures,
        c.put.ensures ∙ c.loop-p.invariant.1.1,
      ),
    )
