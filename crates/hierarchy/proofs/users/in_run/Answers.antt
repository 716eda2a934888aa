use native.Mathlib.Omega.{arith}
use borrow.Author.Rules.{rules}
use Rattle.header.specs.declared.layout.Kind.TheVariants.{User}
use Rattle.records.proofs.BlockRuns.{size-some}
use Rattle.hierarchy.proofs.UsersHeld.{run-few, run-held}
use Rattle.hierarchy.proofs.users.in_run.Goals as goal

pub nonzero_div-result : goal.nonzero_div-result
nonzero_div-result c = let e = c.args.edition in omega (arith, size-some e User, c.size-size.ensures)

pub returns : goal.returns
returns c =
    let a = c.args in
    run-held _ _ _ c.size-size.ensures (run-few a.edition a.run.now _ c.size-size.ensures (search rules))
