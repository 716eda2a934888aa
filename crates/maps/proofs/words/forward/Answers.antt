use Prim.Native.Nat.{ℕ, ◌+◌, ◌<◌}
use mathlib.Core.Path.{◌≡◌, subst}
use native.Mathlib.Omega.{arith}
use Rattle.header.specs.Layout.{record_slot, Standing}
use Rattle.header.proofs.Inside.{room_for, same_block, slot_same}
use Rattle.maps.proofs.words.forward.Goals as goal

pub overflow_mul-result : goal.overflow_mul-result
overflow_mul-result c =
    let a = c.args in
    omega (arith, room_for a.shape c.requires.roomy.0 a.n (omega arith))

pub overflow_add-result : goal.overflow_add-result
overflow_add-result c =
    let a = c.args in
    omega (arith, room_for a.shape c.requires.roomy.0 a.n (omega arith))

pub returns-then-n-here : goal.returns-then-n-here
returns-then-n-here c =
    let shape = c.args.shape in
    let j = c.args.j in
    let n = c.args.n in
    let stand = c.requires.roomy.1.0 in
    let h : record_slot shape j + n < shape.capacity = omega (arith, stand.more, c.if-n-here.true) in
    record {
      begins = rw (stand.begins, same_block shape c.requires.roomy.0 j n h);
      more = rw (slot_same shape c.requires.roomy.0 j n h) (omega (arith, stand.more));
    }

-- they are all that the block has left
pub returns : goal.returns
returns c =
    let a = c.args in
    let all : a.here.left ≡ a.n = omega (arith, c.requires.n_le_left, c.if-n-here.false) in
    subst (λ (n : ℕ). Standing a.shape (a.j + n) c.next_block.result) all c.next_block.ensures
