use Rattle.header.specs.Header.{fit_rule}
use Rattle.header.proofs.rules.fit_ok.Goals as goal

pub returns : goal.returns
unfolding fit_rule
returns c = rw c.blocks_needed.ensures.0
