use Rattle.refusals.specs.Answers.{Amount}
use Prim.Native.Nat.{ℕ}
use mathlib.Core.Path.{ap}
use mathlib.Core.List.{List}
use Rattle.abi.proofs.Places.{list-fits}
use Rattle.abi.proofs.moving.brawnesk_compaccess_users.Goals as goal

pub amount_code-requires : goal.amount_code-requires
amount_code-requires c = rw (ap (λ (p : Amount × List ℕ). p.0) c.compaccess_users.ensures) (list-fits _ _)

pub returns : goal.returns
returns c =
    rw (← c.compaccess_users.ensures, c.amount_code.ensures)
