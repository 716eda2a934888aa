use Prim.Native.Nat.{◌-◌}
use mathlib.Core.Path.{sym, ◌∙◌}
use native.Mathlib.Omega.{arith}
use lib.ListN.{length}
use Rattle.fields.proofs.Scan.{bad-from, bad-upto}
use Rattle.labels.specs.Lists.{lacks_at}
use Rattle.labels.proofs.Splitting.{until-bad}
use Rattle.labels.proofs.lists.mark_from.Goals as goal

pub returns : goal.returns
returns c =
    let a = c.args in
    let rule = lacks_at a.mark a.text.now in
    let n = length a.text.now - a.at in
    let low = bad-from rule n a.at in
    let high = bad-upto rule n a.at in
    (c.first_stop.ensures ∙ sym (until-bad _ _ _ c.requires), (omega arith, omega arith))
