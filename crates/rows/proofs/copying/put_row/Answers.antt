use Prim.Native.Nat.{ℕ, ◌+◌, ◌-◌, ◌≤◌, ◌<◌}
use mathlib.Core.Path.{◌∙◌}
use mathlib.Core.List.{List}
use native.Mathlib.Nat.{add-sub_cancel_left}
use native.Mathlib.Omega.{arith}
use lib.ListN.{length}
use Rattle.buffers.proofs.Stored.{Begun, begun-turn, begun-end, part-long}
use Rattle.rows.proofs.FirstBytes.{first-stands, begun-room, begun-again, begun-whole, Nearly}
use Rattle.rows.proofs.copying.put_row.Goals as goal
use Rattle.rows.proofs.copying.put_row.Goals.{then-last-gt8, else-last-gt8}

pub put_word-requires : goal.put_word-requires
put_word-requires c =
    let a = c.args in
    rw add-sub_cancel_left (part-long a.buffer.now a.at 8 (omega (arith, c.requires.in_bounds)))

-- ---- up to 16 bytes
pub overflow_sub-n : goal.overflow_sub-n
overflow_sub-n c = c.requires.in_bounds.0

pub put8-requires : goal.put8-requires
put8-requires c =
    let first-put = first-stands c.requires.in_bounds (λ k. omega (arith, c.type_inv.text k)) c.requires.first_value c.put_word.ensures in
    (omega (arith, c.requires.in_bounds.0), begun-room first-put c.requires.in_bounds.1)

pub shape_of-buffer-then-n-le16 : goal.shape_of-buffer-then-n-le16
shape_of-buffer-then-n-le16 c =
    let Stands : List ℕ → ℕ → Type 0 = λ b n. Begun c.args.buffer.now c.args.at c.args.text.now b n in
    let first-put = first-stands c.requires.in_bounds (λ k. omega (arith, c.type_inv.text k)) c.requires.first_value c.put_word.ensures in
    let short-put : (Stands c.put8.new.buffer (length c.args.text.now - 8 + 8)) = (
    let n = length c.args.text.now in
    let low : 8 ≤ n = c.requires.in_bounds.0 in
    let high : n - 8 ≤ 8 = omega (arith, c.if-n-le16.true) in
    begun-turn _ _ _ c.requires.in_bounds.1 _ 8 first-put (n - 8) 8 (omega arith) high (omega arith) _ c.put8.ensures
    ) in
    short-put.long

pub returns-then-n-le16 : goal.returns-then-n-le16
returns-then-n-le16 c =
    let Stands : List ℕ → ℕ → Type 0 = λ b n. Begun c.args.buffer.now c.args.at c.args.text.now b n in
    let first-put = first-stands c.requires.in_bounds (λ k. omega (arith, c.type_inv.text k)) c.requires.first_value c.put_word.ensures in
    let short-put : (Stands c.put8.new.buffer (length c.args.text.now - 8 + 8)) = (
    let n = length c.args.text.now in
    let low : 8 ≤ n = c.requires.in_bounds.0 in
    let high : n - 8 ≤ 8 = omega (arith, c.if-n-le16.true) in
    begun-turn _ _ _ c.requires.in_bounds.1 _ 8 first-put (n - 8) 8 (omega arith) high (omega arith) _ c.put8.ensures
    ) in
    begun-end _ _ _ c.requires.in_bounds.1 _ _ short-put (omega (arith, c.requires.in_bounds.0))

-- ---- up to 39 bytes
pub put16-requires : goal.put16-requires
put16-requires c =
    let first-put = first-stands c.requires.in_bounds (λ k. omega (arith, c.type_inv.text k)) c.requires.first_value c.put_word.ensures in
    (omega (arith, c.if-last-gt8.true, c.if-n-le16.false), begun-room first-put c.requires.in_bounds.1)

pub put16-requires-then-n-lt40 : goal.put16-requires-then-n-lt40
put16-requires-then-n-lt40 c =
    let first-put = first-stands c.requires.in_bounds (λ k. omega (arith, c.type_inv.text k)) c.requires.first_value c.put_word.ensures in
    let middle-put : (let a = c.args in let last = length a.text.now - 16 in Nearly a.buffer.now a.at a.text.now c.if-last-gt8.buffer last (last + 16)) = (
    let n = length c.args.text.now in
    let more = c.if-n-le16.false in
    let less = c.if-n-lt40.true in
    elim c.if-last-gt8.branch [
      | then-last-gt8 w ↦
          let some : 8 < n - 16 = w.if-last-gt8.true in
          record {
            upto = 24;
            low = omega (arith, less);
            high = omega arith;
            begun = begun-turn _ _ _ c.requires.in_bounds.1 _ 8 first-put 8 16 (omega arith) (omega arith) (omega arith) _ (w.buffer-is ∙ w.put16.ensures);
          }
      | else-last-gt8 w ↦
          let none : n - 16 ≤ 8 = w.if-last-gt8.false in
          record { upto = 8; low = none; high = omega (arith, more); begun = rw w.buffer-is first-put }
    ]
    ) in
    let more = c.if-n-le16.false in
    (omega (arith, more), begun-room middle-put.begun c.requires.in_bounds.1)

pub shape_of-buffer-then-n-lt40 : goal.shape_of-buffer-then-n-lt40
shape_of-buffer-then-n-lt40 c =
    let Stands : List ℕ → ℕ → Type 0 = λ b n. Begun c.args.buffer.now c.args.at c.args.text.now b n in
    let first-put = first-stands c.requires.in_bounds (λ k. omega (arith, c.type_inv.text k)) c.requires.first_value c.put_word.ensures in
    let middle-put : (let a = c.args in let last = length a.text.now - 16 in Nearly a.buffer.now a.at a.text.now c.if-last-gt8.buffer last (last + 16)) = (
    let n = length c.args.text.now in
    let more = c.if-n-le16.false in
    let less = c.if-n-lt40.true in
    elim c.if-last-gt8.branch [
      | then-last-gt8 w ↦
          let some : 8 < n - 16 = w.if-last-gt8.true in
          record {
            upto = 24;
            low = omega (arith, less);
            high = omega arith;
            begun = begun-turn _ _ _ c.requires.in_bounds.1 _ 8 first-put 8 16 (omega arith) (omega arith) (omega arith) _ (w.buffer-is ∙ w.put16.ensures);
          }
      | else-last-gt8 w ↦
          let none : n - 16 ≤ 8 = w.if-last-gt8.false in
          record { upto = 8; low = none; high = omega (arith, more); begun = rw w.buffer-is first-put }
    ]
    ) in
    let medium-put : (Stands c.put16-then-n-lt40.new.buffer (length c.args.text.now - 16 + 16)) = (
    let near = middle-put in
    let more = c.if-n-le16.false in
    begun-turn _ _ _ c.requires.in_bounds.1 _ _ near.begun (length c.args.text.now - 16) 16 (omega (arith, more)) near.low near.high
    _ c.put16-then-n-lt40.ensures
    ) in
    medium-put.long

pub returns-then-n-lt40 : goal.returns-then-n-lt40
returns-then-n-lt40 c =
    let Stands : List ℕ → ℕ → Type 0 = λ b n. Begun c.args.buffer.now c.args.at c.args.text.now b n in
    let first-put = first-stands c.requires.in_bounds (λ k. omega (arith, c.type_inv.text k)) c.requires.first_value c.put_word.ensures in
    let middle-put : (let a = c.args in let last = length a.text.now - 16 in Nearly a.buffer.now a.at a.text.now c.if-last-gt8.buffer last (last + 16)) = (
    let n = length c.args.text.now in
    let more = c.if-n-le16.false in
    let less = c.if-n-lt40.true in
    elim c.if-last-gt8.branch [
      | then-last-gt8 w ↦
          let some : 8 < n - 16 = w.if-last-gt8.true in
          record {
            upto = 24;
            low = omega (arith, less);
            high = omega arith;
            begun = begun-turn _ _ _ c.requires.in_bounds.1 _ 8 first-put 8 16 (omega arith) (omega arith) (omega arith) _ (w.buffer-is ∙ w.put16.ensures);
          }
      | else-last-gt8 w ↦
          let none : n - 16 ≤ 8 = w.if-last-gt8.false in
          record { upto = 8; low = none; high = omega (arith, more); begun = rw w.buffer-is first-put }
    ]
    ) in
    let medium-put : (Stands c.put16-then-n-lt40.new.buffer (length c.args.text.now - 16 + 16)) = (
    let near = middle-put in
    let more = c.if-n-le16.false in
    begun-turn _ _ _ c.requires.in_bounds.1 _ _ near.begun (length c.args.text.now - 16) 16 (omega (arith, more)) near.low near.high
    _ c.put16-then-n-lt40.ensures
    ) in
    begun-end _ _ _ c.requires.in_bounds.1 _ _ medium-put (omega arith)

-- ---- up to 72 bytes
pub put32-requires : goal.put32-requires
put32-requires c =
    let first-put = first-stands c.requires.in_bounds (λ k. omega (arith, c.type_inv.text k)) c.requires.first_value c.put_word.ensures in
    (omega (arith, c.if-n-lt40.false), begun-room first-put c.requires.in_bounds.1)

pub put32-requires-then-n-le72 : goal.put32-requires-then-n-le72
put32-requires-then-n-le72 c =
    let Stands : List ℕ → ℕ → Type 0 = λ b n. Begun c.args.buffer.now c.args.at c.args.text.now b n in
    let first-put = first-stands c.requires.in_bounds (λ k. omega (arith, c.type_inv.text k)) c.requires.first_value c.put_word.ensures in
    let second-put : Stands c.put32.new.buffer 40 =
    begun-turn _ _ _ c.requires.in_bounds.1 _ 8 first-put 8 32 (omega (arith, c.if-n-lt40.false)) (omega arith) (omega arith) _ c.put32.ensures in
    (omega (arith, c.if-n-lt40.false), begun-room second-put c.requires.in_bounds.1)

pub shape_of-buffer-then-n-le72 : goal.shape_of-buffer-then-n-le72
shape_of-buffer-then-n-le72 c =
    let Stands : List ℕ → ℕ → Type 0 = λ b n. Begun c.args.buffer.now c.args.at c.args.text.now b n in
    let first-put = first-stands c.requires.in_bounds (λ k. omega (arith, c.type_inv.text k)) c.requires.first_value c.put_word.ensures in
    let second-put : Stands c.put32.new.buffer 40 =
    begun-turn _ _ _ c.requires.in_bounds.1 _ 8 first-put 8 32 (omega (arith, c.if-n-lt40.false)) (omega arith) (omega arith) _ c.put32.ensures in
    let long-put : (Stands c.put32-then-n-le72.new.buffer (length c.args.text.now - 32 + 32)) = (
    let n = length c.args.text.now in
    let more : 40 ≤ n = c.if-n-lt40.false in
    let less : n ≤ 72 = c.if-n-le72.true in
    begun-turn _ _ _ c.requires.in_bounds.1 _ 40 second-put (n - 32) 32 (omega arith) (omega arith) (omega arith) _ c.put32-then-n-le72.ensures
    ) in
    long-put.long

pub returns-then-n-le72 : goal.returns-then-n-le72
returns-then-n-le72 c =
    let Stands : List ℕ → ℕ → Type 0 = λ b n. Begun c.args.buffer.now c.args.at c.args.text.now b n in
    let first-put = first-stands c.requires.in_bounds (λ k. omega (arith, c.type_inv.text k)) c.requires.first_value c.put_word.ensures in
    let second-put : Stands c.put32.new.buffer 40 =
    begun-turn _ _ _ c.requires.in_bounds.1 _ 8 first-put 8 32 (omega (arith, c.if-n-lt40.false)) (omega arith) (omega arith) _ c.put32.ensures in
    let long-put : (Stands c.put32-then-n-le72.new.buffer (length c.args.text.now - 32 + 32)) = (
    let n = length c.args.text.now in
    let more : 40 ≤ n = c.if-n-lt40.false in
    let less : n ≤ 72 = c.if-n-le72.true in
    begun-turn _ _ _ c.requires.in_bounds.1 _ 40 second-put (n - 32) 32 (omega arith) (omega arith) (omega arith) _ c.put32-then-n-le72.ensures
    ) in
    begun-end _ _ _ c.requires.in_bounds.1 _ _ long-put (omega arith)

pub loop-i-init : goal.loop-i-init
loop-i-init c =
    let first-put = first-stands c.requires.in_bounds (λ k. omega (arith, c.type_inv.text k)) c.requires.first_value c.put_word.ensures in
    (omega arith, begun-again _ _ _ c.requires.in_bounds.1 _ _ c.requires.in_bounds.0 first-put)

pub put32-requires-in-loop-i : goal.put32-requires-in-loop-i
put32-requires-in-loop-i c =
    let first-put = first-stands c.requires.in_bounds (λ k. omega (arith, c.type_inv.text k)) c.requires.first_value c.put_word.ensures in
    let room-then = begun-room first-put c.requires.in_bounds.1 in
    (omega (arith, c.loop-i-test.true, c.if-n-lt40.false), begun-room c.loop-i.invariant.1 room-then)

pub loop-i-preserved : goal.loop-i-preserved
loop-i-preserved c =
    let first-put = first-stands c.requires.in_bounds (λ k. omega (arith, c.type_inv.text k)) c.requires.first_value c.put_word.ensures in
    let room-then = begun-room first-put c.requires.in_bounds.1 in
    let i = c.loop-i.i in
    let inside : i + 32 ≤ length c.args.text.now = omega (arith, c.loop-i-test.true, c.if-n-lt40.false) in (
      omega (arith, c.loop-i-test.true),
      begun-turn _ _ _ room-then _ i c.loop-i.invariant.1 i 32 inside (omega arith) (omega arith) _ c.put32-in-loop-i.ensures,
    )

pub put32-requires-2 : goal.put32-requires-2
put32-requires-2 c =
    let first-put = first-stands c.requires.in_bounds (λ k. omega (arith, c.type_inv.text k)) c.requires.first_value c.put_word.ensures in
    let room-then = begun-room first-put c.requires.in_bounds.1 in
    (omega (arith, c.if-n-lt40.false), begun-room c.loop-i.invariant.1 room-then)

pub shape_of-buffer : goal.shape_of-buffer
shape_of-buffer c =
    let first-put = first-stands c.requires.in_bounds (λ k. omega (arith, c.type_inv.text k)) c.requires.first_value c.put_word.ensures in
    let room-then = begun-room first-put c.requires.in_bounds.1 in
    let last-put = (
    begun-turn _ _ _ room-then _ _ c.loop-i.invariant.1 (length c.args.text.now - 32) 32 (omega (arith, c.if-n-lt40.false))
    c.loop-i-test.false c.loop-i.invariant.0 _ c.put32-2.ensures
    ) in
    last-put.long ∙ first-put.long

pub returns : goal.returns
returns c =
    let first-put = first-stands c.requires.in_bounds (λ k. omega (arith, c.type_inv.text k)) c.requires.first_value c.put_word.ensures in
    let room-then = begun-room first-put c.requires.in_bounds.1 in
    let last-put = (
    begun-turn _ _ _ room-then _ _ c.loop-i.invariant.1 (length c.args.text.now - 32) 32 (omega (arith, c.if-n-lt40.false))
    c.loop-i-test.false c.loop-i.invariant.0 _ c.put32-2.ensures
    ) in
    let row = begun-end _ _ _ room-then _ _ last-put (omega arith) in
    begun-whole _ _ _ c.requires.in_bounds.1 _ _ c.requires.in_bounds.0 first-put _ row
