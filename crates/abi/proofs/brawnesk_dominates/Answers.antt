use Rattle.abi.proofs.Places.{dominates-fits}
use Rattle.abi.proofs.brawnesk_dominates.Goals as goal

pub verdict_code-requires : goal.verdict_code-requires
verdict_code-requires c = rw c.dominates.ensures (dominates-fits _ _ _)

pub returns : goal.returns
returns c =
    rw (c.verdict_code.ensures, c.dominates.ensures, c.label_in-second.ensures, c.label_in-first.ensures)
