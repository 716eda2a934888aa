use mathlib.Core.Path.{ap, ◌∙◌}
use Prim.Native.Nat.{ℕ, ◌/◌, ◌^◌}
use Rattle.sets.specs.Sets.{union, intersection, difference}
use Rattle.hierarchy.specs.Columns.{lacking}
use Rattle.hierarchy.proofs.ColumnTurns.{asked-number}
use Rattle.hierarchy.proofs.columns.lacking.Goals as goal

pub returns : goal.returns
unfolding lacking
returns c =
    let a = c.args in
    c.difference.ensures
    ∙ ap (λ (s : ℕ). difference (union s (a.x / 2 ^ 32)) a.below) (c.intersection.ensures ∙ ap (intersection (a.x / 2 ^ 16)) asked-number)
