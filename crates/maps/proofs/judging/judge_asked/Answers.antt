use Prim.Native.Nat.{ℕ, ◌+◌, ◌-◌, ◌*◌, ◌<◌, min}
use mathlib.Core.Path.{◌≡◌, refl, subst, ◌∙◌}
use native.Mathlib.Nat.{sub-zero}
use native.Mathlib.Omega.{arith}
use Rattle.fields.proofs.Laws.{part_length}
use Rattle.header.specs.declared.layout.Kind.TheVariants.{Label}
use Rattle.header.specs.Layout.{labels, Standing}
use Rattle.header.proofs.Inside.{header-inside, record-upto}
use Rattle.access.specs.Rights.{rights_of}
use Rattle.maps.specs.Map.{map_of}
use Rattle.maps.proofs.Bits.{map-at-most, length-least}
use Rattle.maps.proofs.ByParts.{compare-stop, compare-step, compare-end}
use Rattle.maps.proofs.InWords.{part-compared}
use Rattle.maps.proofs.judging.judge_asked.Invariants.{Told}
use Rattle.maps.proofs.judging.judge_asked.Goals as goal

pub shape_of-shape-requires : goal.shape_of-shape-requires
shape_of-shape-requires c = header-inside _ c.requires.counted.0.fitted

pub edition_of-edition-requires : goal.edition_of-edition-requires
edition_of-edition-requires c = header-inside _ c.requires.counted.0.fitted

pub record_at-here-requires : goal.record_at-here-requires
record_at-here-requires c =
    let s = c.shape_of-shape.ensures in
    (s.roomy, rw s.is (omega (arith, record-upto _ c.requires.counted.0.fitted Label 0 (omega arith))))

pub loop-k-init : goal.loop-k-init
unfolding map_of
loop-k-init c =
    let n = labels c.args.image.now in
    let first : 0 ≡ min (64 * 0) n = omega arith in
    let start : 0 ≡ min c.args.count (8 * 0) = omega arith in (
      subst (λ (p : ℕ). Standing c.shape_of-shape.result p c.record_at-here.result) first c.record_at-here.ensures,
      subst (Told c.args.image.now (rights_of c.args.view) c.args.count c.args.bits.now) start (rw (sub-zero, c.requires.count_value)),
    )

pub map_word-word-requires : goal.map_word-word-requires
map_word-word-requires c =
    let im = c.args.image.now in
    let l = c.loop-k in
    let inside : 64 * l.k < labels im = omega (arith, c.loop-k-test.true, c.requires.count_value, length-least im) in
    let here : min (64 * l.k) (labels im) ≡ 64 * l.k = omega arith in
    record {
      counted = (c.requires.counted.0, (c.shape_of-shape.ensures, c.edition_of-edition.ensures));
      k_bound = (inside, subst (λ (p : ℕ). Standing c.shape_of-shape.result p l.here) here l.invariant.0);
    }

pub overflow_add-k-end : goal.overflow_add-k-end
overflow_add-k-end c = omega (arith, c.requires.count_value, map-at-most _ c.requires.counted.0)

pub overflow_mul-at : goal.overflow_mul-at
overflow_mul-at c = omega (arith, c.loop-k-test.true, c.requires.count_value, map-at-most _ c.requires.counted.0)

pub overflow_add-at : goal.overflow_add-at
overflow_add-at c = omega (arith, c.loop-k-test.true, c.requires.count_value, map-at-most _ c.requires.counted.0)

pub are_bytes-requires : goal.are_bytes-requires
are_bytes-requires c =
    let at = 8 * c.loop-k.k in
    part_length _ at (c.lower-end.result - at) (omega (arith, c.lower-end.ensures, c.loop-k-test.true, c.requires.counted.1))

pub returns-then-not-are_bytes : goal.returns-then-not-are_bytes
returns-then-not-are_bytes c =
    let l = c.loop-k in
    let a = c.args in
    let end = c.lower-end.result in
    let here : min a.count (8 * l.k) ≡ 8 * l.k = omega (arith, c.loop-k-test.true) in
    let told = subst (Told a.image.now (rights_of a.view) a.count a.bits.now) here l.invariant.1 in
    let same = part-compared a.image.now (rights_of a.view) l.k (8 * l.k) end _ _ _ c.map_word-word.ensures.0 refl
    (omega (arith, c.lower-end.ensures)) c.are_bytes.ensures in
    compare-stop _ _ _ c.requires.counted.1 _ _ end (omega (arith, c.lower-end.ensures, c.loop-k-test.true)) (omega (arith, c.lower-end.ensures))
    told (same ∙ c.if-not-are_bytes.true)

pub loop-k-preserved : goal.loop-k-preserved
loop-k-preserved c =
    let l = c.loop-k in
    let a = c.args in
    let n = labels a.image.now in
    let end = c.lower-end.result in
    let here : min a.count (8 * l.k) ≡ 8 * l.k = omega (arith, c.loop-k-test.true) in
    let there : end ≡ min a.count (8 * (l.k + 1)) = omega (arith, c.lower-end.ensures) in
    let next : min (64 * l.k + 64) n ≡ min (64 * (l.k + 1)) n = omega arith in
    let Left : ℕ → Type 0 = Told a.image.now (rights_of a.view) a.count a.bits.now in
    let same = part-compared a.image.now (rights_of a.view) l.k (8 * l.k) end _ _ _ c.map_word-word.ensures.0 refl
    (omega (arith, c.lower-end.ensures)) c.are_bytes.ensures in (
      subst (λ (p : ℕ). Standing c.shape_of-shape.result p c.map_word-word.result.next) next c.map_word-word.ensures.1,
      subst Left there
          (compare-step _ _ _ c.requires.counted.1 _ _ end (omega (arith, c.lower-end.ensures, c.loop-k-test.true)) (omega (arith, c.lower-end.ensures))
          (subst Left here l.invariant.1) (same ∙ c.if-not-are_bytes.false)),
    )

pub returns : goal.returns
returns c = compare-end _ _ _ c.requires.counted.1 _ _ (omega (arith, c.loop-k-test.false)) c.loop-k.invariant.1
