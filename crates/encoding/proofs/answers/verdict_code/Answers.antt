use Rattle.refusals.specs.Answers.{PlaceFits, verdict_given, Verdict}
use mathlib.Core.Path.{subst}
use Rattle.encoding.proofs.answers.verdict_code.Goals as goal

pub refused-requires : goal.refused-requires
refused-requires c = subst (λ (v : Verdict). PlaceFits (verdict_given v)) c.in-Err.is c.requires

pub returns-in-Err : goal.returns-in-Err
returns-in-Err c = rw c.in-Err.is c.refused.ensures
