use mathlib.Core.Logic.{inl, inr}
use Rattle.refusals.proofs.Values.{others-none}
use Rattle.lines.proofs.RefusalText.{told_none}
use Rattle.lines.proofs.refused.put_place.Goals as goal

pub returns-in-ComponentRecord : goal.returns-in-ComponentRecord
returns-in-ComponentRecord c =
    elim c.in-ComponentRecord.is [
      | inl e ↦ rw e c.put_record.ensures
      | inr o ↦ elim o [ inl e ↦ rw e c.put_record.ensures | inr e ↦ rw e c.put_record.ensures ]
    ]

pub returns-in-UnknownName : goal.returns-in-UnknownName
returns-in-UnknownName c =
    elim c.in-UnknownName.is [
      | inl e ↦ rw e c.put_value-in-UnknownName.ensures
      | inr e ↦ rw e c.put_value-in-UnknownName.ensures
    ]

pub returns-in_default : goal.returns-in_default
returns-in_default c =
    let o = c.in_default in
    let none =
    others-none c.args.refusal o.not-BlockCheck o.not-ComponentRecord o.not-LabelRecord o.not-UserRecord o.not-ParentRing o.not-UnknownName
    o.not-RepeatedName o.not-CompaccessHolders in
    told_none c.args.refusal _ _ none
