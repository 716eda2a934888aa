use Rattle.moves.specs.Moving.{move_limits_rule}
use Rattle.moves.proofs.up.limits_ok.Goals as goal

pub returns : goal.returns
unfolding move_limits_rule
returns c =
    rw (c.limits_in-limits.ensures, c.labels.ensures.0, c.users.ensures.0)
