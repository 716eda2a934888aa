use Rattle.std.proofs.Common.{◌+◌, ◌*◌}
use Rattle.blocks.specs.Columns.{column_once, column_term}
use Rattle.blocks.proofs.Lanes.{Filled}
use Rattle.blocks.proofs.columns.terms.Given as goal

abbrev pub invariant-loop-j : goal.invariant-loop-j
invariant-loop-j l =
    Filled (λ i. column_once l.one l.two (2 * i) + column_once l.one l.two (2 * i + 1)) l.j l.once
    × Filled (λ i. column_term l.one l.two (2 * i) + column_term l.one l.two (2 * i + 1)) l.j l.often
