use Rattle.blocks.specs.Columns.{Columned}
use Rattle.blocks.proofs.columns.half_columns.Given as goal

abbrev pub invariant-loop-r : goal.invariant-loop-r
invariant-loop-r l = Columned l.half l.r l.s
