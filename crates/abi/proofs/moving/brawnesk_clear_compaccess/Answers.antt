use Rattle.refusals.specs.Answers.{Amount}
use Prim.Native.Nat.{ℕ}
use mathlib.Core.Path.{ap}
use mathlib.Core.List.{List}
use Rattle.abi.proofs.Places.{clear-fits}
use Rattle.abi.proofs.moving.brawnesk_clear_compaccess.Goals as goal

pub amount_code-requires : goal.amount_code-requires
amount_code-requires c = rw (ap (λ (p : Amount × List ℕ). p.0) c.clear_compaccess.ensures) (clear-fits _ _)

pub returns : goal.returns
returns c =
    rw (← c.clear_compaccess.ensures, c.amount_code.ensures)
