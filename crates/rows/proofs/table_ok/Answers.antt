use Prim.Native.Nat.{◌≤◌}
use native.Mathlib.Omega.{arith}
use borrow.Author.Tests.{leb-true}
use Rattle.fields.proofs.Both.{parts}
use Rattle.rows.specs.Table.{table_rule}
use Rattle.rows.proofs.table_ok.Goals as goal

pub returns-then-not-width : goal.returns-then-not-width
unfolding table_rule
returns-then-not-width c = rw (c.if-not-width.true)

pub nonzero_rem-result : goal.nonzero_rem-result
nonzero_rem-result c =
    let low : 5 ≤ c.args.width = leb-true _ _ (parts _ _ (c.if-not-width.false)).0 in
    omega arith

pub returns : goal.returns
unfolding table_rule
returns c = rw (c.if-not-width.false)
