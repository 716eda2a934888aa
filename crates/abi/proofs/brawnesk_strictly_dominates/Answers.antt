use Rattle.abi.proofs.Places.{strictly-dominates-fits}
use Rattle.abi.proofs.brawnesk_strictly_dominates.Goals as goal

pub verdict_code-requires : goal.verdict_code-requires
verdict_code-requires c = rw c.strictly_dominates.ensures (strictly-dominates-fits _ _ _)

pub returns : goal.returns
returns c =
    rw (c.verdict_code.ensures, c.strictly_dominates.ensures, c.label_in-second.ensures, c.label_in-first.ensures)
