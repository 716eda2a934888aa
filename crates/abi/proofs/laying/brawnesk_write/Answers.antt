use Prim.Native.Nat.{ℕ}
use mathlib.Core.Path.{ap}
use mathlib.Core.List.{List}
use Rattle.writing.specs.Calls.{WriteAnswer}
use Rattle.abi.proofs.WritePlaces.{write-fits}
use Rattle.abi.proofs.laying.brawnesk_write.Goals as goal

pub write_code-requires : goal.write_code-requires
write_code-requires c = rw (ap (λ (p : WriteAnswer × List ℕ). p.0) c.write.ensures) (write-fits _ _ _ _ _ _)

pub returns : goal.returns
returns c =
    rw (← c.write.ensures, c.write_code.ensures)
