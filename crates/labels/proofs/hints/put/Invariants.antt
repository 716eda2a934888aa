use mathlib.Core.Path.{◌≡◌}
use lib.ListN.{length}
use Rattle.labels.proofs.hints.put.Given as goal

abbrev pub invariant-loop-k : goal.invariant-loop-k
invariant-loop-k l = length l.hints ≡ length l.initial.hints
