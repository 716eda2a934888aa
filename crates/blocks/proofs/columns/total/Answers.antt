use Rattle.std.proofs.Common.{◌+◌, sym, ap₂, ◌∙◌, arith}
use Rattle.blocks.proofs.Cells.{sum-none, sum-next}
use Rattle.blocks.proofs.columns.total.Goals as goal

pub loop-x-init : goal.loop-x-init
loop-x-init c = (omega arith, sym (sum-none _))

pub loop-x-preserved : goal.loop-x-preserved
loop-x-preserved c =
    let low = c.requires c.loop-x.x-index (omega arith) in
    (omega arith, ap₂ ◌+◌ c.loop-x.invariant.1 c.from-s.ensures ∙ sym (sum-next _ c.loop-x.x-index))
