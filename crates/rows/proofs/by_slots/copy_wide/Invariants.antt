use mathlib.Core.Path.{◌≡◌}
use Rattle.buffers.proofs.Left.{Left}
use Rattle.fields.specs.Bytes.{AreBytes}
use Rattle.rows.specs.Scan.{kept_bytes}
use Rattle.rows.specs.Slots.{row_held}
use Rattle.rows.proofs.by_slots.copy_wide.Given as goal

abbrev pub invariant-loop-row : goal.invariant-loop-row
invariant-loop-row l =
    let left = kept_bytes (row_held l.slots) in
    (l.row-iterator.size ≡ l.width)
    × (AreBytes l.row-iterator.rest.now × Left l.initial.buffer 0 (left l.run l.width) l.buffer l.to (left l.row-iterator.rest.now l.width))
