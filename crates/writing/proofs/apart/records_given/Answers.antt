use mathlib.Core.Path.{sym, ◌∙◌}
use Rattle.image.proofs.Accepted.{accepted-counted}
use Rattle.writing.specs.Calls.{records_given_of}
use Rattle.writing.proofs.apart.records_given.Goals as goal

pub give_records-requires : goal.give_records-requires
give_records-requires c = accepted-counted _ (sym c.check.ensures ∙ c.in-Ok.is)

pub returns-in-Ok : goal.returns-in-Ok
unfolding records_given_of
returns-in-Ok c = rw (sym c.check.ensures ∙ c.in-Ok.is) c.give_records.ensures

pub returns-in-Err : goal.returns-in-Err
unfolding records_given_of
returns-in-Err c = rw (sym c.check.ensures ∙ c.in-Err.is)
