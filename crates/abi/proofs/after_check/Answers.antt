use mathlib.Core.Path.{sym, ◌∙◌}
use native.Mathlib.Omega.{arith}
use Rattle.image.proofs.Place.{check-place}
use Rattle.abi.proofs.after_check.Goals as goal

pub refused-requires-in-Err : goal.refused-requires-in-Err
refused-requires-in-Err c = omega (arith, check-place _ _ (sym c.check.ensures ∙ c.in-Err.is))

pub returns-in-Ok : goal.returns-in-Ok
returns-in-Ok c = rw (← c.check.ensures, c.in-Ok.is) c.refused.ensures

pub returns-in-Err : goal.returns-in-Err
returns-in-Err c = rw (← c.check.ensures, c.in-Err.is) c.refused-in-Err.ensures
