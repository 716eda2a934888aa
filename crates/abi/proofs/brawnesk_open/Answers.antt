use Rattle.abi.proofs.Places.{open-fits}
use Rattle.sessions.specs.Opening.{opening_of}
use mathlib.Core.Path.{sym, ap, ◌∙◌}
use Rattle.abi.proofs.brawnesk_open.Goals as goal

pub refused-requires : goal.refused-requires
refused-requires c = open-fits _ _ _ (sym c.open.ensures ∙ ap opening_of c.in-Err.is)

pub returns-in-Ok : goal.returns-in-Ok
returns-in-Ok c = rw (← c.open.ensures, c.in-Ok.is, c.session_bytes.ensures.0)

pub returns-in-Err : goal.returns-in-Err
returns-in-Err c = rw (← c.open.ensures, c.in-Err.is, c.refused.ensures)
