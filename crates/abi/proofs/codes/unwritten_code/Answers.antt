use mathlib.Core.Path.{subst}
use Rattle.std.proofs.Common.{Err}
use Rattle.refusals.specs.Answers.{PlaceFits}
use Rattle.writing.specs.declared.answers.WriteRefusal.{WriteRefusal}
use Rattle.writing.specs.Calls.{write_given}
use Rattle.abi.proofs.codes.unwritten_code.Goals as goal

pub fault_code-requires : goal.fault_code-requires
fault_code-requires c = subst (λ (r : WriteRefusal). PlaceFits (write_given (Err r))) c.in-Lent.is c.requires

pub refused-requires : goal.refused-requires
refused-requires c = subst (λ (r : WriteRefusal). PlaceFits (write_given (Err r))) c.in-Buffer.is c.requires

pub returns-in-Lent : goal.returns-in-Lent
returns-in-Lent c = rw c.in-Lent.is c.fault_code.ensures

pub returns-in-Buffer : goal.returns-in-Buffer
returns-in-Buffer c = rw c.in-Buffer.is c.refused.ensures
