use mathlib.Core.Path.{sym, ◌∙◌}
use native.Mathlib.Omega.{arith}
use Rattle.labels.proofs.PartEnds.{ends-search, past-part}
use Rattle.labels.proofs.scan.first_stop.Goals as goal

pub returns-then-not-part_passes : goal.returns-then-not-part_passes
returns-then-not-part_passes g c =
    rw c.stop_in_part.ensures
    (ends-search _ 16 _ (sym c.part_passes.ensures ∙ c.if-not-part_passes.true) _ _ (omega arith) c.loop-p.invariant)

pub loop-p-preserved : goal.loop-p-preserved
loop-p-preserved g c =
    past-part _ _ _ _ _ (omega arith) c.loop-p.invariant (sym c.part_passes.ensures ∙ c.if-not-part_passes.false)
