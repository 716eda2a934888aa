use Rattle.refusals.specs.Answers.{Amount}
use Prim.Native.Nat.{ℕ}
use mathlib.Core.Path.{ap}
use mathlib.Core.List.{List}
use Rattle.abi.proofs.WritePlaces.{records-fits}
use Rattle.abi.proofs.laying.brawnesk_label_records.Goals as goal

pub amount_code-requires : goal.amount_code-requires
amount_code-requires c = rw (ap (λ (p : Amount × List ℕ). p.0) c.label_records.ensures) (records-fits _ _ _)

pub returns : goal.returns
returns c =
    rw (← c.label_records.ensures, c.amount_code.ensures)
