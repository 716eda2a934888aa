use Prim.Native.Nat.{◌+◌, ◌<◌}
use native.Mathlib.Nat.{mul-one}
use native.Mathlib.Omega.{arith}
use Rattle.header.specs.Layout.{record_slot}
use Rattle.header.proofs.Inside.{same_block, slot_same}
use Rattle.header.proofs.walk.next_record.Goals as goal

pub returns-then-here-gt1 : goal.returns-then-here-gt1
returns-then-here-gt1 c =
    let shape = c.args.shape in
    let j = c.args.j in
    let stand = c.requires.1.0 in
    let h : record_slot shape j + 1 < shape.capacity = omega (arith, stand.more, c.if-here-gt1.true) in
    record {
      begins = rw (stand.begins, same_block shape c.requires.0 j 1 h, mul-one);
      more = rw (slot_same shape c.requires.0 j 1 h) (omega (arith, stand.more));
    }
