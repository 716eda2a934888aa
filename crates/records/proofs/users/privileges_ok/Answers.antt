use Rattle.records.specs.Rules.{privileges_rule}
use Rattle.records.proofs.users.privileges_ok.Goals as goal

pub returns : goal.returns
unfolding privileges_rule
returns c = rw (c.bans_compaccess.ensures, c.has.ensures)
