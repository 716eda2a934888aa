use native.Mathlib.Omega.{arith}
use Rattle.lines.proofs.RefusalText.{room-front, room-place, room-newline, written-refused}
use Rattle.lines.proofs.refused.refusal_line.Goals as goal

pub put_named-numbered-requires : goal.put_named-numbered-requires
put_named-numbered-requires c =
    room-front c.args.refusal c.args.buffer.now c.requires c.number-n.ensures

pub put_place-placed-requires : goal.put_place-placed-requires
put_place-placed-requires c =
    room-place c.args.refusal c.args.buffer.now c.requires c.number-n.ensures c.put_named-numbered.ensures

pub bounds-buffer-placed : goal.bounds-buffer-placed
bounds-buffer-placed c =
    room-newline c.args.refusal c.args.buffer.now c.requires c.number-n.ensures c.put_named-numbered.ensures c.put_place-placed.ensures

pub overflow_add-result : goal.overflow_add-result
overflow_add-result c =
    let h =
    room-newline c.args.refusal c.args.buffer.now c.requires c.number-n.ensures c.put_named-numbered.ensures c.put_place-placed.ensures in
    omega (arith, h)

pub returns : goal.returns
returns c =
    written-refused c.args.refusal c.args.buffer.now c.requires c.number-n.ensures c.put_named-numbered.ensures c.put_place-placed.ensures
