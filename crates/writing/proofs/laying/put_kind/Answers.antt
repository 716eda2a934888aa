use Prim.Native.Nat.{ℕ, ◌+◌, ◌*◌, ◌/◌, ◌≤◌, ◌<◌, min}
use mathlib.Core.Path.{◌≡◌, sym, ap, ◌∙◌}
use mathlib.Core.List.{List}
use native.Mathlib.Nat.{div-le_self}
use native.Mathlib.Omega.{arith}
use lib.ListN.{length}
use Rattle.header.specs.declared.edition.Edition.{Edition}
use Rattle.header.specs.declared.layout.Kind.{Kind}
use Rattle.header.specs.Layout.{record_size, capacity_of, blocks_for}
use Rattle.buffers.proofs.Left.{left-start, left-room, left-turn, left_end}
use Rattle.records.proofs.BlockRuns.{size-some}
use Rattle.records.proofs.Parts.{run-count}
use Rattle.writing.proofs.Runs.{run-sized}
use Rattle.writing.proofs.KindSteps.{all_blocks, kind-start, kind-end, kind-long, KindTurn, kind-turn}
use Rattle.writing.proofs.laying.put_kind.Invariants.{records_in, blocks}
use Rattle.writing.proofs.laying.put_kind.Goals as goal

count-is : (edition : Edition) (kind : Kind) (bytes : List ℕ) → length (records_in edition kind bytes) ≡ length bytes / record_size edition kind
count-is edition kind bytes = run-count (record_size edition kind) bytes

blocks-are : (edition : Edition) (kind : Kind) (bytes : List ℕ) (place : ℕ)
    → all_blocks edition kind (records_in edition kind bytes) place ≡ blocks edition kind bytes place
blocks-are edition kind bytes place = rw (count-is edition kind bytes)

-- code's number of records is theirs
count-told : (edition : Edition) (kind : Kind) (bytes : List ℕ) {size : ℕ} → size ≡ record_size edition kind
    → length bytes / size ≡ length (records_in edition kind bytes)
count-told edition kind bytes e = ap (λ (s : ℕ). length bytes / s) e ∙ sym (count-is edition kind bytes)

-- the buffer's room for all blocks
whole : (edition : Edition) (kind : Kind) (bytes : List ℕ) (place at : ℕ) {room : ℕ}
    → at + 512 * blocks_for (capacity_of edition kind) (length bytes / record_size edition kind) ≤ room
    → at + length (blocks edition kind bytes place) ≤ room
whole edition kind bytes place at h =
    let rs = records_in edition kind bytes in
    let long = kind-long edition kind rs (run-sized (record_size edition kind) (size-some edition kind) bytes) place in
    omega (arith, ap length (blocks-are edition kind bytes place), ap (blocks_for (capacity_of edition kind)) (count-is edition kind bytes))

-- a turn of the loop, by the numbers that code has
turn : (edition : Edition) (kind : Kind) (bytes : List ℕ) (from to b : ℕ) {size held : ℕ} → size ≡ record_size edition kind
    → held ≡ capacity_of edition kind → to ≡ min (length bytes / size) (from + held) → from < length bytes / size
    → KindTurn edition kind (records_in edition kind bytes) from to b
turn edition kind bytes from to b s h e more =
    kind-turn edition kind (records_in edition kind bytes) from to b (run-sized (record_size edition kind) (size-some edition kind) bytes)
    (count-told edition kind bytes s) h e more

pub nonzero_div-count : goal.nonzero_div-count
nonzero_div-count c =
    rw c.size-size.ensures (size-some c.args.edition c.args.kind)

pub loop-from-init : goal.loop-from-init
loop-from-init c =
    let a = c.args in
    let rs = records_in a.edition a.kind a.records.now in
    (omega arith, (omega arith, left-start _ _ _ _ (kind-start a.edition a.kind rs a.place ∙ blocks-are a.edition a.kind a.records.now a.place)))

pub overflow_add-from : goal.overflow_add-from
overflow_add-from c =
    let a = c.args in
    omega (arith, c.capacity-held.ensures.1, c.loop-from.invariant.0, div-le_self (length a.records.now) c.size-size.result)

pub put_run-end-requires : goal.put_run-end-requires
put_run-end-requires c =
    let a = c.args in
    let t = turn c.args.edition c.args.kind c.args.records.now c.loop-from.from c.lower-to.result c.loop-from.b c.size-size.ensures
    c.capacity-held.ensures.0 c.lower-to.ensures c.loop-from-test.true in
    let room = whole a.edition a.kind a.records.now a.place a.at c.requires.kind_in_bounds in
    let count = count-is a.edition a.kind a.records.now in
    record {
      from_le_to = (t.low, (omega (arith, t.upto), t.few));
      place_bound = (
        omega (arith, c.requires.kind_bound, t.here, c.loop-from.invariant.1.0),
        rw (← t.long) (left-room _ _ _ _ _ _ c.loop-from.invariant.1.1 _ _ t.step room),
      );
    }

pub overflow_add-b : goal.overflow_add-b
overflow_add-b c =
    let t = turn c.args.edition c.args.kind c.args.records.now c.loop-from.from c.lower-to.result c.loop-from.b c.size-size.ensures
    c.capacity-held.ensures.0 c.lower-to.ensures c.loop-from-test.true in
    omega (arith, c.loop-from.invariant.1.0, c.requires.kind_bound, t.here, count-is c.args.edition c.args.kind c.args.records.now)

pub loop-from-smaller : goal.loop-from-smaller
loop-from-smaller c =
    omega (arith, c.lower-to.ensures, c.capacity-held.ensures.1, c.loop-from-test.true)

pub loop-from-preserved : goal.loop-from-preserved
loop-from-preserved c =
    let a = c.args in
    let t = turn c.args.edition c.args.kind c.args.records.now c.loop-from.from c.lower-to.result c.loop-from.b c.size-size.ensures
    c.capacity-held.ensures.0 c.lower-to.ensures c.loop-from-test.true in
    let inv = c.loop-from.invariant in
    let room = whole a.edition a.kind a.records.now a.place a.at c.requires.kind_in_bounds in
    let told = count-told a.edition a.kind a.records.now c.size-size.ensures in
    (omega arith, (omega arith, left-turn _ _ _ _ _ _ inv.1.1 _ _ t.step _ _ room c.put_run-end.ensures))

pub shape_of-buffer : goal.shape_of-buffer
shape_of-buffer c = c.loop-from.invariant.1.1.long

pub returns : goal.returns
returns c =
    let a = c.args in
    let rs = records_in a.edition a.kind a.records.now in
    let told = count-told a.edition a.kind a.records.now c.size-size.ensures in
    left_end _ _ _ _ _ _ c.loop-from.invariant.1.1 (kind-end a.edition a.kind rs _ _ (omega (arith, told, c.loop-from-test.false)))
