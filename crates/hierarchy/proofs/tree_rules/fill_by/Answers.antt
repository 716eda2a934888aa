use Prim.Native.Nat.{◌+◌, ◌^◌, ◌<◌}
use native.Mathlib.Omega.{arith}
use Rattle.hierarchy.proofs.UsersInRows.{fill-next}
use Rattle.hierarchy.proofs.tree_rules.fill_by.Goals as goal

pub loop-i-preserved : goal.loop-i-preserved
loop-i-preserved g c = (
  c.put_user.ensures.size,
  λ users bytes reads.
      let place : c.args.from + c.loop-i.i < 2 ^ 64 = omega arith in
      let are = reads _ place _ c.sets_of-sets.ensures in
      fill-next _ _ _ _ _ _ _ _ _ c.loop-i-test.true (c.loop-i.invariant.1 _ _ reads) are c.sets_fit.ensures c.if-not-sets_fit.false c.put_user.ensures,
)
