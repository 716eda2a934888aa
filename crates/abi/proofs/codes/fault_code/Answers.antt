use mathlib.Core.Path.{subst}
use Rattle.refusals.specs.Answers.{PlaceFits}
use Rattle.writing.specs.declared.answers.LentFault.{LentFault}
use Rattle.writing.specs.Lent.{fault_given}
use Rattle.abi.proofs.codes.fault_code.Goals as goal

pub told-requires : goal.told-requires
told-requires c =
    subst (λ (f : LentFault). PlaceFits (fault_given f)) c.in-Record.is c.requires

pub refused-requires-in-Ring : goal.refused-requires-in-Ring
refused-requires-in-Ring c =
    subst (λ (f : LentFault). PlaceFits (fault_given f)) c.in-Ring.is c.requires

pub returns-in-Record : goal.returns-in-Record
returns-in-Record c =
    rw (c.in-Record.is, ← c.record_number.ensures) c.told.ensures

pub returns-in-Ring : goal.returns-in-Ring
returns-in-Ring c = rw c.in-Ring.is c.refused-in-Ring.ensures
