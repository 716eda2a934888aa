use mathlib.Core.Path.{refl}
use mathlib.Core.Path.{ap, ◌∙◌}
use native.Mathlib.Omega.{arith}
use Rattle.records.specs.Fields.{parent_of}
use Rattle.writing.proofs.Runs.{run-taken}
use Rattle.writing.proofs.groups.parent_at.Goals as goal

pub returns : goal.returns
returns c =
    let a = c.args in
    let taken = run-taken 40 (omega arith) a.components.now a.i _ 40 c.requires refl refl in
    (c.parent_in.ensures.0 ∙ ap (parent_of a.edition) taken, c.parent_in.ensures.1)
