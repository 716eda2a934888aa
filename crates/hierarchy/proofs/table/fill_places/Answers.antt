use Prim.Native.Nat.{ℕ, ◌+◌, ◌*◌, ◌^◌, ◌≤◌, ◌<◌, zero-le}
use mathlib.Core.Path.{◌≡◌, sym, ◌∙◌, subst}
use mathlib.Core.List.{List}
use native.Mathlib.Nat.{add-zero}
use native.Mathlib.Omega.{arith}
use lib.ListN.{length}
use Rattle.header.specs.declared.layout.Kind.TheVariants.{Component}
use Rattle.header.specs.declared.layout.Shape.{Shape}
use Rattle.header.specs.declared.edition.Edition.{Edition}
use Rattle.header.specs.Layout.{edition_of, record_at, counts_of, groups, components, class_first, Shaped, record_offset, Standing}
use Rattle.header.specs.Limits.{Counted}
use Rattle.header.proofs.Inside.{header-inside, record-upto}
use Rattle.records.specs.Fields.{parent_of}
use Rattle.hierarchy.specs.Below.{parent}
use Rattle.hierarchy.proofs.Room.{groups-table}
use Rattle.hierarchy.proofs.OfImage.{parent-record}
use Rattle.hierarchy.proofs.Steps.{stored-length, stored_more}
use Rattle.hierarchy.proofs.table.fill_places.Goals as goal

-- group g is a component, and the walk to it stays in the image
module _ (im : List ℕ) (n : Counted im) (first : ℕ) (is : first ≡ class_first (counts_of im) 3) where
  among : (g : ℕ) → g < groups im → first + g < components im
  unfolding components class_first
  among g h = omega arith

  upto : (g : ℕ) → g ≤ groups im → first + g ≤ components im
  unfolding components class_first
  upto g h = omega arith

  walk_inside : (shape : Shape) → Shaped im Component shape → length im < 2 ^ 63 → (g : ℕ) → g ≤ groups im → record_offset shape (first + g) < 2 ^ 63
  walk_inside shape shaped small g h = rw shaped.is (omega (arith, record-upto im n.fitted Component (first + g) (upto g h)))

-- the parent's place that its record holds
held : (im : List ℕ) (edition : Edition) (rec : List ℕ) (first g : ℕ) → edition ≡ edition_of im → rec ≡ record_at im Component (first + g)
    → first ≡ class_first (counts_of im) 3 → g < groups im → parent_of edition rec ≡ parent im g
held im edition rec first g e r f h = rw (e, r, f) (sym (parent-record im g h))

pub edition_of-edition-requires : goal.edition_of-edition-requires
edition_of-edition-requires c = header-inside _ c.requires.0.fitted

pub groups-count-requires : goal.groups-count-requires
groups-count-requires c = header-inside _ c.requires.0.fitted

pub class_first-first-requires : goal.class_first-first-requires
class_first-first-requires c = header-inside _ c.requires.0.fitted

pub shape_of-shape-requires : goal.shape_of-shape-requires
shape_of-shape-requires c = header-inside _ c.requires.0.fitted

pub record_at-here-requires : goal.record_at-here-requires
record_at-here-requires c =
    let shaped = c.shape_of-shape.ensures in
    (shaped.roomy, rw add-zero at (walk_inside _ c.requires.0 _ c.class_first-first.ensures.0 _ shaped (omega arith) 0 zero-le))

pub placed_part-rec-requires : goal.placed_part-rec-requires
placed_part-rec-requires c =
    let g : c.loop-g.g < groups c.args.image.now = omega arith in
    (c.requires.0.fitted, (c.shape_of-shape.ensures, (among _ c.requires.0 _ c.class_first-first.ensures.0 _ g, c.loop-g.invariant.1.0.begins)))

pub next_record-here-requires : goal.next_record-here-requires
next_record-here-requires c =
    let shaped = c.shape_of-shape.ensures in
    let g : c.loop-g.g ≤ groups c.args.image.now = omega arith in
    (shaped.roomy, (c.loop-g.invariant.1.0, walk_inside _ c.requires.0 _ c.class_first-first.ensures.0 _ shaped (omega arith) _ g))

pub loop-g-preserved : goal.loop-g-preserved
loop-g-preserved c =
    let im = c.args.image.now in
    let g = c.loop-g.g in
    let places = c.loop-g.places in
    let inv = c.loop-g.invariant.1.1 in
    let h : g < groups im = omega arith in
    let l : 2 * g + 1 < length places = omega (arith, inv.0, groups-table im c.requires.0) in
    let next : c.class_first-first.result + g + 1 ≡ c.class_first-first.result + (g + 1) = omega arith in
    let is =
    c.parent_in-parent.ensures.0
    ∙ held im _ _ _ _ c.edition_of-edition.ensures c.placed_part-rec.ensures.0 c.class_first-first.ensures.0 h in (
      omega arith,
      (
        subst (λ (n : ℕ). Standing c.shape_of-shape.result n c.next_record-here.result) next c.next_record-here.ensures,
        (stored-length places g _ ∙ inv.0, stored_more (parent im) places g _ l is inv.1),
      ),
    )

pub returns : goal.returns
returns c = λ g l. c.loop-g.invariant.1.1.1 g (omega arith)
