use Rattle.std.proofs.Common.{◌≡◌, ◌*◌}
use Rattle.blocks.proofs.Lanes.{Adding}
use Rattle.blocks.proofs.columns.add_row.Given as goal

abbrev pub invariant-loop-j : goal.invariant-loop-j
invariant-loop-j l =
    (l.at ≡ 16 * l.r) × Adding l.half l.r l.j record { mixed = l.mixed; odd = l.odd; mixed_above = l.mixed_above; odd_above = l.odd_above }
