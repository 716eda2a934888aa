use Prim.Native.Nat.{ℕ, ◌+◌, ◌-◌, ◌*◌, ◌≤◌, ◌<◌, min}
use mathlib.Core.Path.{◌≡◌, refl, subst, ◌∙◌}
use native.Mathlib.Nat.{sub-zero, zero-add}
use native.Mathlib.Omega.{arith}
use Rattle.fields.proofs.Laws.{part_length}
use Rattle.fields.proofs.Scan.{list_length, list-end}
use Rattle.header.specs.declared.layout.Kind.TheVariants.{Label}
use Rattle.header.specs.Layout.{labels, Standing}
use Rattle.header.proofs.Inside.{header-inside, record-upto}
use Rattle.buffers.specs.Pasting.{Written}
use Rattle.buffers.proofs.Left.{left-start, left-turn, left_end}
use Rattle.access.specs.Rights.{rights_of}
use Rattle.maps.specs.Map.{map_byte, map_of}
use Rattle.maps.proofs.Bits.{map-long, map-at-most, length-least}
use Rattle.maps.proofs.ByParts.{list-cut, part-written}
use Rattle.maps.proofs.InWords.{word-part}
use Rattle.maps.proofs.making.put_asked.Invariants.{Unwritten}
use Rattle.maps.proofs.making.put_asked.Goals as goal

pub shape_of-shape-requires : goal.shape_of-shape-requires
shape_of-shape-requires c = header-inside _ c.requires.counted.0.fitted

pub edition_of-edition-requires : goal.edition_of-edition-requires
edition_of-edition-requires c = header-inside _ c.requires.counted.0.fitted

pub record_at-here-requires : goal.record_at-here-requires
record_at-here-requires c =
    let s = c.shape_of-shape.ensures in
    (s.roomy, rw s.is (omega (arith, record-upto _ c.requires.counted.0.fitted Label 0 (omega arith))))

pub loop-k-init : goal.loop-k-init
unfolding map_of
loop-k-init c =
    let a = c.args in
    let n = labels a.image.now in
    let first : 0 ≡ min (64 * 0) n = omega arith in
    let start : 0 ≡ min a.count (8 * 0) = omega arith in (
      subst (λ (p : ℕ). Standing c.shape_of-shape.result p c.record_at-here.result) first c.record_at-here.ensures,
      subst (Unwritten a.image.now (rights_of a.view) a.count a.buffer.now a.buffer.now) start (left-start _ _ _ _ (rw (sub-zero, c.requires.count_value))),
    )

pub overflow_add-k-end : goal.overflow_add-k-end
overflow_add-k-end c = omega (arith, c.requires.count_value, map-at-most _ c.requires.counted.0)

pub map_word-word-requires : goal.map_word-word-requires
map_word-word-requires c =
    let im = c.args.image.now in
    let l = c.loop-k in
    let inside : 64 * l.k < labels im = omega (arith, c.loop-k-test.true, c.requires.count_value, length-least im) in
    let here : min (64 * l.k) (labels im) ≡ 64 * l.k = omega arith in
    record {
      counted = (c.requires.counted.0, (c.shape_of-shape.ensures, c.edition_of-edition.ensures));
      k_bound = (inside, subst (λ (p : ℕ). Standing c.shape_of-shape.result p l.here) here l.invariant.0);
    }

pub overflow_mul-at : goal.overflow_mul-at
overflow_mul-at c = omega (arith, c.loop-k-test.true, c.requires.count_value, map-at-most _ c.requires.counted.0)

pub overflow_add-at : goal.overflow_add-at
overflow_add-at c = omega (arith, c.loop-k-test.true, c.requires.count_value, map-at-most _ c.requires.counted.0)

pub put_bytes-requires : goal.put_bytes-requires
put_bytes-requires c =
    let l = c.loop-k in
    let at = 8 * l.k in
    part_length _ at (c.lower-end.result - at)
    (omega (arith, c.lower-end.ensures, c.loop-k-test.true, l.invariant.1.long, c.requires.counted.1, c.requires.count_value))

pub loop-k-preserved : goal.loop-k-preserved
loop-k-preserved c =
    let l = c.loop-k in
    let a = c.args in
    let n = labels a.image.now in
    let byte = map_byte a.image.now (rights_of a.view) in
    let at = 8 * l.k in
    let end = c.lower-end.result in
    let here : min a.count (8 * l.k) ≡ 8 * l.k = omega (arith, c.loop-k-test.true) in
    let there : end ≡ min a.count (8 * (l.k + 1)) = omega (arith, c.lower-end.ensures) in
    let later : at ≤ end = omega (arith, c.lower-end.ensures, c.loop-k-test.true) in
    let upto : end ≤ a.count = omega (arith, c.lower-end.ensures) in
    let next : min (64 * l.k + 64) n ≡ min (64 * (l.k + 1)) n = omega arith in
    let bytes = c.put_bytes.ensures
    ∙ word-part a.image.now (rights_of a.view) l.k at end _ c.map_word-word.ensures.0 refl (omega (arith, c.lower-end.ensures)) in
    let written = part-written l.buffer _ _ at end later (list_length byte (end - at) at) bytes in
    let left = subst (Unwritten a.image.now (rights_of a.view) a.count a.buffer.now l.buffer) here l.invariant.1 in (
      subst (λ (p : ℕ). Standing c.shape_of-shape.result p c.map_word-word.result.next) next c.map_word-word.ensures.1,
      subst (Unwritten a.image.now (rights_of a.view) a.count a.buffer.now _) there
          (left-turn _ _ _ _ _ _ left _ _ (list-cut byte a.count at end later upto) _ _ (rw (zero-add, map-long) c.requires.counted.1) written),
    )

pub shape_of-buffer : goal.shape_of-buffer
shape_of-buffer c = c.loop-k.invariant.1.long

pub returns : goal.returns
returns c =
    let l = c.loop-k in
    let a = c.args in
    let map = map_of a.image.now (rights_of a.view) in
    let all : min a.count (8 * l.k) ≡ a.count = omega (arith, c.loop-k-test.false) in
    subst (λ (r : ℕ). Written a.buffer.now 0 map l.buffer r) all
    (left_end _ _ _ _ _ _ l.invariant.1 (list-end _ _ _ (omega (arith, c.loop-k-test.false))))
