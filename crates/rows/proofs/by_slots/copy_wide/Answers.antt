use Prim.Native.Nat.{ℕ, ◌+◌, ◌≤◌, ◌%◌}
use mathlib.Core.Path.{◌≡◌, refl, sym, ap, ◌∙◌}
use mathlib.Core.Bool.{true}
use mathlib.Core.List.{List, ◌++◌}
use native.Mathlib.Nat.{zero-add}
use native.Mathlib.Omega.{arith}
use lib.ListN.{length}
use Rattle.buffers.specs.Pasting.{Written}
use Rattle.buffers.proofs.Left.{left-start, left-room, left-turn, left_end, written_none}
use Rattle.fields.specs.Bytes.{AreBytes, number8}
use Rattle.rows.specs.Scan.{row_bytes}
use Rattle.rows.specs.Slots.{held, row_held}
use Rattle.rows.proofs.Adding.{next_row, bytes_next, bytes_none, adds-all, adds_none}
use Rattle.rows.proofs.FirstBytes.{front-bytes, back-bytes, tag_read}
use Rattle.rows.proofs.by_slots.copy_wide.Goals as goal

-- the tag that was read with the row's first 8 bytes is asked
asked : (slots rest row later : List ℕ) → rest ≡ row ++ later → AreBytes rest → (first : ℕ) → first ≡ number8 row 0
    → held slots (first % 4294967296) ≡ row_held slots row
asked slots rest row later cut bytes first e = ap (held slots) (tag_read row (front-bytes rest row later cut bytes) first e)

pub loop-row-init : goal.loop-row-init
loop-row-init c =
    rw (c.into_iter-row-iterator.ensures.into_iter_gives, c.chunks_exact-row-items.ensures.rest)
    (c.chunks_exact-row-items.ensures.size, ((λ k. omega (arith, c.type_inv.run k)), left-start _ _ _ _ refl))

pub put_row-requires : goal.put_row-requires
put_row-requires c =
    let low = c.requires.run.0.wide in
    let s = c.in-Some.ensures.steps in
    let inv = c.loop-row.invariant in
    let test = row_held c.args.slots.now in
    let row = c.in-Some.row.now in
    let passed : test row ≡ true = sym (c.has.ensures ∙ asked _ _ _ _ s.1.0 inv.1.0 _ c.number8-first.ensures) ∙ c.if-has.true in
    let step = bytes_next test c.args.width (omega arith) _ _ _ (next_row s.1.0 (s.1.1 ∙ inv.0)) in
    record {
      in_bounds = (
        omega (arith, s.1.1, inv.0, c.requires.run.1),
        rw (← adds-all test row passed) (left-room _ _ _ _ _ _ inv.1.1 (row_bytes test row) _ step (rw zero-add c.requires.width_in_bounds)),
      );
      first_value = c.number8-first.ensures;
    }

pub overflow_add-to : goal.overflow_add-to
overflow_add-to c =
    let low = c.requires.run.0.wide in
    let s = c.in-Some.ensures.steps in
    let inv = c.loop-row.invariant in
    let test = row_held c.args.slots.now in
    let row = c.in-Some.row.now in
    let passed : test row ≡ true = sym (c.has.ensures ∙ asked _ _ _ _ s.1.0 inv.1.0 _ c.number8-first.ensures) ∙ c.if-has.true in
    let step = bytes_next test c.args.width (omega arith) _ _ _ (next_row s.1.0 (s.1.1 ∙ inv.0)) in
    let room : c.loop-row.to + length row ≤ length c.loop-row.buffer =
    rw (← adds-all test row passed) (left-room _ _ _ _ _ _ inv.1.1 (row_bytes test row) _ step (rw zero-add c.requires.width_in_bounds)) in
    omega (arith, room, s.1.1, inv.0)

pub loop-row-preserved-then-has : goal.loop-row-preserved-then-has
loop-row-preserved-then-has c =
    let low = c.requires.run.0.wide in
    let s = c.in-Some.ensures.steps in
    let inv = c.loop-row.invariant in
    let test = row_held c.args.slots.now in
    let row = c.in-Some.row.now in
    let passed : test row ≡ true = sym (c.has.ensures ∙ asked _ _ _ _ s.1.0 inv.1.0 _ c.number8-first.ensures) ∙ c.if-has.true in
    let step = bytes_next test c.args.width (omega arith) _ _ _ (next_row s.1.0 (s.1.1 ∙ inv.0)) in
    let all = adds-all test row passed in
    let written : Written c.loop-row.buffer c.loop-row.to row _ _ =
    record { bytes = c.put_row.ensures; stop = ap (λ (n : ℕ). c.loop-row.to + n) (sym (s.1.1 ∙ inv.0)) } in (
      s.0 ∙ inv.0,
      (
        back-bytes _ _ _ s.1.0 inv.1.0,
        left-turn _ _ _ _ _ _ inv.1.1 (row_bytes test row) _ step _ _ (rw zero-add c.requires.width_in_bounds) (rw all written),
      ),
    )

pub loop-row-preserved : goal.loop-row-preserved
loop-row-preserved c =
    let low = c.requires.run.0.wide in
    let s = c.in-Some.ensures.steps in
    let inv = c.loop-row.invariant in
    let test = row_held c.args.slots.now in
    let row = c.in-Some.row.now in
    let step = bytes_next test c.args.width (omega arith) _ _ _ (next_row s.1.0 (s.1.1 ∙ inv.0)) in
    let none = adds_none test row (sym (c.has.ensures ∙ asked _ _ _ _ s.1.0 inv.1.0 _ c.number8-first.ensures) ∙ c.if-has.false) in (
      s.0 ∙ inv.0,
      (
        back-bytes _ _ _ s.1.0 inv.1.0,
        left-turn _ _ _ _ _ _ inv.1.1 (row_bytes test row) _ step _ _ (rw zero-add c.requires.width_in_bounds) (written_none _ _ _ none),
      ),
    )

pub shape_of-buffer : goal.shape_of-buffer
shape_of-buffer c = c.loop-row.invariant.1.1.long

pub returns : goal.returns
returns c =
    let low = c.requires.run.0.wide in
    left_end _ _ _ _ _ _ c.loop-row.invariant.1.1
    (bytes_none _ c.args.width (omega arith) _ (omega (arith, c.loop-row.invariant.0, c.in-None.ensures.steps.1.0)))
