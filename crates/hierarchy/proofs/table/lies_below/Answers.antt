use mathlib.Core.Path.{sym, ap, ◌∙◌}
use Rattle.sets.specs.Sets.{within}
use Rattle.sets.specs.Groups.{places_of}
use Rattle.hierarchy.specs.Forest.{forest_by}
use Rattle.hierarchy.proofs.InOrder.{roots-lie}
use Rattle.hierarchy.proofs.table.lies_below.Goals as goal

pub returns-then-within : goal.returns-then-within
returns-then-within c =
    let f = forest_by c.args.count c.args.table.now in
    let w = ap (within (places_of c.args.set)) (sym c.intersection.ensures) ∙ sym c.within.ensures ∙ c.if-within.true in
    sym (roots-lie f _ _ _ c.requires.1 w)

pub returns : goal.returns
returns c =
    c.within-2.ensures ∙ ap (within (places_of c.args.set)) c.below.ensures
