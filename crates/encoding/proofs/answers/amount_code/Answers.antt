use mathlib.Core.Path.{subst}
use Rattle.refusals.specs.Answers.{PlaceFits, amount_given, Amount}
use Rattle.encoding.proofs.answers.amount_code.Goals as goal

pub refused-requires : goal.refused-requires
refused-requires c = subst (λ (a : Amount). PlaceFits (amount_given a)) c.in-Err.is c.requires

pub returns-in-Err : goal.returns-in-Err
returns-in-Err c = rw c.in-Err.is c.refused.ensures
