use Rattle.refusals.specs.Answers.{Amount}
use Prim.Native.Nat.{ℕ}
use mathlib.Core.Path.{ap}
use mathlib.Core.List.{List}
use Rattle.abi.proofs.Places.{print-fits}
use Rattle.abi.proofs.brawnesk_print.Goals as goal

pub amount_code-requires : goal.amount_code-requires
amount_code-requires c = rw (ap (λ (p : Amount × List ℕ). p.0) c.print.ensures) (print-fits _ _ _)

pub returns : goal.returns
returns c =
    rw (← c.label_in.ensures, ← c.print.ensures, c.amount_code.ensures)
