use mathlib.Core.Path.{ap, ◌∙◌}
use Rattle.hierarchy.specs.Forest.{below_in, forest_by}
use Rattle.sets.specs.Groups.{places_of}
use Rattle.hierarchy.proofs.InOrder.{below_word}
use Rattle.hierarchy.proofs.table.below.Goals as goal

pub returns-then-count-le64 : goal.returns-then-count-le64
returns-then-count-le64 c =
    let f = forest_by c.args.count c.args.table.now in
    c.of_word.ensures ∙ c.below_in_word.ensures ∙ ap (below_in f) c.word.ensures
    ∙ below_word f (places_of c.args.s) c.if-count-le64.true
