use native.Mathlib.Omega.{arith}
use Rattle.hierarchy.proofs.ColumnRules.{lowest-none, lowest-is}
use Rattle.hierarchy.proofs.columns.lowest_bad.Goals as goal

pub returns-then-all-eq0 : goal.returns-then-all-eq0
returns-then-all-eq0 c =
    lowest-none _ _ _ c.lacked-all.ensures (λ g. omega (arith, c.slice_known-1.given g)) c.if-all-eq0.true

pub returns : goal.returns
returns c =
    lowest-is _ _ _ c.lacked-all.ensures (λ g. omega (arith, c.slice_known-1.given g)) _ c.first.ensures c.if-all-eq0.false
