-- `refusals::place` meets its contract: an arm that binds a value returns it, and each case of the last arm holds none.
-- Assumes nothing.
use mathlib.Core.Path.{sym, ap, ◌∙◌}
use Rattle.refusals.specs.Refusals.{place_in, place_of}
use Rattle.refusals.proofs.Values.{others-none}
use Rattle.refusals.proofs.place.Goals as goal

pub returns-in-BlockCheck : goal.returns-in-BlockCheck
returns-in-BlockCheck c = sym (ap place_of c.in-BlockCheck.is)

pub returns-in-ComponentRecord : goal.returns-in-ComponentRecord
returns-in-ComponentRecord c = c.packed.ensures ∙ sym (ap place_of c.in-ComponentRecord.is)

pub returns-in-LabelRecord : goal.returns-in-LabelRecord
returns-in-LabelRecord c = c.packed-in-LabelRecord.ensures ∙ sym (ap place_of c.in-LabelRecord.is)

pub returns-in-UserRecord : goal.returns-in-UserRecord
returns-in-UserRecord c = c.packed-in-UserRecord.ensures ∙ sym (ap place_of c.in-UserRecord.is)

pub returns-in-ParentRing : goal.returns-in-ParentRing
returns-in-ParentRing c = sym (ap place_of c.in-ParentRing.is)

pub returns-in-UnknownName : goal.returns-in-UnknownName
returns-in-UnknownName c = sym (ap place_of c.in-UnknownName.is)

pub returns-in-RepeatedName : goal.returns-in-RepeatedName
returns-in-RepeatedName c = sym (ap place_of c.in-RepeatedName.is)

pub returns-in-CompaccessHolders : goal.returns-in-CompaccessHolders
returns-in-CompaccessHolders c = sym (ap place_of c.in-CompaccessHolders.is)
