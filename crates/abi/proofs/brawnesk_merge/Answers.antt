use Rattle.abi.proofs.Places.{merge-fits}
use Rattle.dominance.specs.TwoLabels.{merging_of}
use mathlib.Core.Path.{sym, ap, ◌∙◌}
use Rattle.abi.proofs.brawnesk_merge.Goals as goal

pub refused-requires : goal.refused-requires
refused-requires c = merge-fits _ _ _ _ (sym c.merge.ensures ∙ ap merging_of c.in-Err.is)

pub returns-in-Ok : goal.returns-in-Ok
returns-in-Ok c =
    rw (← c.label_in-first.ensures, ← c.label_in-second.ensures, ← c.merge.ensures, c.in-Ok.is, c.label_bytes.ensures.0)

pub returns-in-Err : goal.returns-in-Err
returns-in-Err c =
    rw (← c.label_in-first.ensures, ← c.label_in-second.ensures, ← c.merge.ensures, c.in-Err.is, c.refused.ensures)
