use Rattle.header.specs.Header.{counts_rule}
use Rattle.header.proofs.rules.counts_ok.Goals as goal

pub returns : goal.returns
unfolding counts_rule
returns c =
    rw (c.counts_within.ensures, c.labels.ensures.0, c.users.ensures.0, c.counts_of.ensures)
