use Prim.Native.Nat.{ℕ, ◌+◌, ◌-◌, ◌≤◌, ◌<◌, min}
use mathlib.Core.Path.{◌≡◌, refl, sym, ap, subst, ◌∙◌}
use mathlib.Core.List.{List, [], ◌++◌, flatten}
use native.Mathlib.Nat.{zero-add}
use native.Mathlib.Omega.{arith}
use lib.ListN.{length, drop, length-drop, drop_of_length-le}
use lib.Seq.{drop-drop, get_or-drop}
use Rattle.header.specs.declared.layout.Kind.{Kind}
use Rattle.header.specs.declared.layout.Shape.{Shape}
use Rattle.header.specs.declared.walk.RecordAt.{RecordAt}
use Rattle.header.specs.Layout.{edition_of, record_size, count_of, record_slot, records_of, Shaped, Standing, OneBlock}
use Rattle.header.proofs.Inside.{header-inside, record-upto, records-count, slot-below, offset-shaped}
use Rattle.records.specs.Kinds.{RunOf}
use Rattle.buffers.proofs.Left.{left-start, left-room, left-turn, left_end}
use Rattle.writing.proofs.Runs.{run-front}
use Rattle.writing.proofs.apart.put_records.Invariants.{rest}
use Rattle.writing.proofs.apart.put_records.Goals as goal

rest-turn : (im : List ℕ) (kind : Kind) (from to : ℕ) (run : List ℕ) → RunOf im kind from to run → from < to → to ≤ count_of im kind
    → rest im kind from ≡ run ++ rest im kind to
rest-turn im kind from to run r low high =
    let records : List (List ℕ) = records_of im kind in
    let next : from + (to - from) ≡ to = omega arith in
    run-front (record_size (edition_of im) kind) (to - from) run (drop from records) r.long
    (rw length-drop (omega (arith, records-count im kind))) (λ q h. r.same q h ∙ sym (get_or-drop from records q []))
    ∙ ap (λ (rs : List (List ℕ)). run ++ flatten rs) (drop-drop (to - from) from records ∙ ap (λ (k : ℕ). drop k records) next)

rest_end : (im : List ℕ) (kind : Kind) (i : ℕ) → count_of im kind ≤ i → rest im kind i ≡ []
unfolding flatten
rest_end im kind i h =
    let past : length (records_of im kind) ≤ i = omega (arith, records-count im kind) in
    ap flatten (drop_of_length-le (records_of im kind) past)

-- a turn of the loop: the records up to the block's end, or to the last, stand in one block
walked : (im : List ℕ) (kind : Kind) (shape : Shape) (here : RecordAt) (from to : ℕ) → Shaped im kind shape → Standing shape from here
    → from < shape.count → to ≡ min shape.count (from + here.left) → (to ≤ count_of im kind) × ((from < to) × OneBlock im kind here.at from to)
walked im kind shape here from to s stand more upto =
    let count : shape.count ≡ count_of im kind = ap (λ (x : Shape). x.count) s.is in
    let left = ap (λ (x : Shape). x.capacity - record_slot x from) s.is in
    let some = slot-below shape s.roomy from in (
      omega arith,
      (
        omega (arith, stand.more),
        record { begins = offset-shaped _ _ _ _ _ s stand.begins; upto = omega (arith, stand.more, left) },
      ),
    )

pub shape_of-shape-requires : goal.shape_of-shape-requires
shape_of-shape-requires c = header-inside _ c.requires.0.fitted

pub record_at-here-requires : goal.record_at-here-requires
record_at-here-requires c =
    let s = c.shape_of-shape.ensures in
    (s.roomy, rw s.is (omega (arith, record-upto _ c.requires.0.fitted c.args.kind 0 (omega arith))))

pub loop-from-init : goal.loop-from-init
loop-from-init c = ((λ h. c.record_at-here.ensures), left-start _ _ _ _ refl)

pub overflow_add-from : goal.overflow_add-from
overflow_add-from c =
    let l = c.loop-from in
    let s = c.shape_of-shape.ensures in
    let stand = l.invariant.0 c.loop-from-test.true in
    omega (arith, stand.more, s.few, s.roomy.few, c.loop-from-test.true)

pub run_in_block-run-requires : goal.run_in_block-run-requires
run_in_block-run-requires c =
    let in_block = walked c.args.image.now c.args.kind c.shape_of-shape.result c.loop-from.here c.loop-from.from _ c.shape_of-shape.ensures
    (c.loop-from.invariant.0 c.loop-from-test.true) c.loop-from-test.true c.lower-to.ensures in
    record { fitted = (c.requires.0.fitted, c.shape_of-shape.ensures); to_bound = in_block }

pub put-end-requires : goal.put-end-requires
put-end-requires c =
    let in_block = walked c.args.image.now c.args.kind c.shape_of-shape.result c.loop-from.here c.loop-from.from _ c.shape_of-shape.ensures
    (c.loop-from.invariant.0 c.loop-from-test.true) c.loop-from-test.true c.lower-to.ensures in
    let turn = rest-turn c.args.image.now c.args.kind _ _ _ c.run_in_block-run.ensures in_block.1.0 in_block.0 in
    let left = rest c.args.image.now c.args.kind c.lower-to.result in
    left-room _ _ _ _ _ _ c.loop-from.invariant.1 c.run_in_block-run.result.now left turn (rw zero-add c.requires.1)

pub next_block-here-requires : goal.next_block-here-requires
next_block-here-requires c =
    let l = c.loop-from in
    let s = c.shape_of-shape.ensures in
    let count : c.shape_of-shape.result.count ≡ count_of c.args.image.now c.args.kind = ap (λ (x : Shape). x.count) s.is in
    let inside : l.from ≤ count_of c.args.image.now c.args.kind = omega (arith, c.loop-from-test.true) in (
      s.roomy,
      (
        l.invariant.0 c.loop-from-test.true,
        rw s.is (omega (arith, record-upto _ c.requires.0.fitted c.args.kind l.from inside)),
      ),
    )

pub loop-from-smaller : goal.loop-from-smaller
loop-from-smaller c =
    let in_block = walked c.args.image.now c.args.kind c.shape_of-shape.result c.loop-from.here c.loop-from.from _ c.shape_of-shape.ensures
    (c.loop-from.invariant.0 c.loop-from-test.true) c.loop-from-test.true c.lower-to.ensures in
    omega (arith, in_block.1.0, c.loop-from-test.true)

pub loop-from-preserved : goal.loop-from-preserved
loop-from-preserved c =
    let in_block = walked c.args.image.now c.args.kind c.shape_of-shape.result c.loop-from.here c.loop-from.from _ c.shape_of-shape.ensures
    (c.loop-from.invariant.0 c.loop-from-test.true) c.loop-from-test.true c.lower-to.ensures in
    let turn = rest-turn c.args.image.now c.args.kind _ _ _ c.run_in_block-run.ensures in_block.1.0 in_block.0 in
    let l = c.loop-from in
    let to = c.lower-to.result in
    let shape : Shape = c.shape_of-shape.result in (
      (λ (m : to < shape.count).
          let q : l.from + l.here.left ≡ to = omega arith in
          subst (λ (n : ℕ). Standing shape n c.next_block-here.result) q c.next_block-here.ensures),
      left-turn _ _ _ _ _ _ l.invariant.1 _ _ turn _ _ (rw zero-add c.requires.1) c.put-end.ensures,
    )

pub shape_of-buffer : goal.shape_of-buffer
shape_of-buffer c = c.loop-from.invariant.1.long

pub returns : goal.returns
returns c =
    let a = c.args in
    let count : c.shape_of-shape.result.count ≡ count_of a.image.now a.kind = ap (λ (x : Shape). x.count) c.shape_of-shape.ensures.is in
    left_end _ _ _ _ _ _ c.loop-from.invariant.1 (rest_end a.image.now a.kind c.loop-from.from (omega (arith, c.loop-from-test.false)))
