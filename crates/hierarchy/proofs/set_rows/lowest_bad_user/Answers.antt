use mathlib.Core.Path.{◌∙◌}
use Rattle.hierarchy.specs.Forest.{forest_by}
use Rattle.hierarchy.proofs.PutSets.{lowest-turned}
use Rattle.hierarchy.proofs.set_rows.lowest_bad_user.Goals as goal

pub returns : goal.returns
returns c =
    let f = forest_by c.args.count c.args.table.now in
    c.lowest_bad.ensures ∙ lowest-turned f _ _ c.turn_over.ensures c.requires.1.1
