use mathlib.Core.Path.{sym, ◌∙◌}
use Rattle.refusals.proofs.Passed.{err-passed}
use Rattle.dominance.specs.TwoLabels.{dominates_of}
use Rattle.dominance.proofs.Compared.{compared-means}
use Rattle.dominance.proofs.dominates.Goals as goal

pub is_above-requires : goal.is_above-requires
is_above-requires c = (compared-means _ _ _ (sym c.compared.ensures ∙ c.in_ok-compared.was)).accepted

pub returns-in_err-compared : goal.returns-in_err-compared
unfolding dominates_of
returns-in_err-compared c = rw (err-passed _ c.from_residual.ensures.1, ← c.compared.ensures, c.in_err-compared.was)
