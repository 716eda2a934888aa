use Rattle.std.proofs.Common.{◌≡◌, ℕ, subst, arith}
use Rattle.blocks.specs.Columns.{Columned}
use Rattle.blocks.proofs.Lanes.{columned-none}
use Rattle.blocks.proofs.columns.half_columns.Goals as goal

pub loop-r-init : goal.loop-r-init
loop-r-init c = columned-none _

pub returns : goal.returns
returns c =
    let all : c.loop-r.r ≡ 16 = omega arith in
    subst (λ (r : ℕ). Columned c.args.half.now r c.loop-r.s) all c.loop-r.invariant
