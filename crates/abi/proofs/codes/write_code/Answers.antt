use mathlib.Core.Path.{subst}
use Rattle.refusals.specs.Answers.{PlaceFits}
use Rattle.writing.specs.Calls.{WriteAnswer, write_given}
use Rattle.abi.proofs.codes.write_code.Goals as goal

pub unwritten_code-requires : goal.unwritten_code-requires
unwritten_code-requires c = subst (λ (a : WriteAnswer). PlaceFits (write_given a)) c.in-Err.is c.requires

pub returns-in-Err : goal.returns-in-Err
returns-in-Err c = rw c.in-Err.is c.unwritten_code.ensures
