use Rattle.std.proofs.Common.{◌≡◌, ◌*◌, ◌≤◌, get_or}
use Rattle.blocks.specs.Columns.{sum}
use Rattle.blocks.proofs.columns.total.Given as goal

abbrev pub invariant-loop-x : goal.invariant-loop-x
invariant-loop-x l = (l.s ≤ 39780 * l.x-index) × (l.s ≡ sum (λ i. get_or l.fn.a i 0) l.x-index)
