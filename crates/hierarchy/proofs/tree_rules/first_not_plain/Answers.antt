use mathlib.Core.Path.{sym, ◌∙◌}
use native.Mathlib.Omega.{arith}
use Rattle.hierarchy.proofs.UsersInRows.{plain-next}
use Rattle.hierarchy.proofs.tree_rules.first_not_plain.Goals as goal

pub loop-u-preserved : goal.loop-u-preserved
loop-u-preserved c =
    let good = sym c.plain.ensures ∙ c.if-not-plain.false in
    plain-next _ _ _ _ _ _ c.loop-u.invariant c.sets_or_none.ensures good

pub returns : goal.returns
returns c = record { after = omega arith; plain = λ u low high. c.loop-u.invariant.plain u low (omega arith) }
