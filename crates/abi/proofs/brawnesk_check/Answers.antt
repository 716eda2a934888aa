use Rattle.abi.proofs.Places.{check-fits}
use Rattle.abi.proofs.brawnesk_check.Goals as goal

pub checked_code-requires : goal.checked_code-requires
checked_code-requires c = rw c.check.ensures (check-fits _)

pub returns : goal.returns
returns c = rw (← c.check.ensures) c.checked_code.ensures
