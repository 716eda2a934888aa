use mathlib.Core.Path.{◌≡◌}
use Rattle.buffers.proofs.Left.{Left}
use Rattle.rows.specs.Scan.{kept_bytes}
use Rattle.rows.proofs.copying.copy_kept.Given as goal

abbrev pub invariant-loop-row : goal.invariant-loop-row
invariant-loop-row g l =
    let left = kept_bytes (g.T.RowTest.passes l.test) in
    (l.row-iterator.size ≡ l.width) × Left l.initial.buffer 0 (left l.run l.width) l.buffer l.to (left l.row-iterator.rest.now l.width)
