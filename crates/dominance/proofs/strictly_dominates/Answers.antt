use mathlib.Core.Path.{sym, ◌∙◌}
use Rattle.refusals.proofs.Passed.{err-passed}
use Rattle.dominance.specs.TwoLabels.{strictly_dominates_of}
use Rattle.dominance.proofs.Compared.{compared-means}
use Rattle.dominance.proofs.strictly_dominates.Goals as goal

pub is_strictly_above-requires : goal.is_strictly_above-requires
is_strictly_above-requires c = (compared-means _ _ _ (sym c.compared.ensures ∙ c.in_ok-compared.was)).accepted

pub returns-in_err-compared : goal.returns-in_err-compared
unfolding strictly_dominates_of
returns-in_err-compared c = rw (err-passed _ c.from_residual.ensures.1, ← c.compared.ensures, c.in_err-compared.was)
