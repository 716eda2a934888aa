use mathlib.Core.Path.{◌≡◌}
use lib.ListN.{length}
use Rattle.sets.specs.Words.{joined}
use Rattle.hierarchy.proofs.InOrder.{Descending}
use Rattle.hierarchy.proofs.table.below_in_words.Given as goal

abbrev pub invariant-loop-i : goal.invariant-loop-i
invariant-loop-i l = (length l.words ≡ 4) × Descending l.count l.table (joined l.initial.words) (joined l.words) l.i
