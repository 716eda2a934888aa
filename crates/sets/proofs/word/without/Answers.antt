-- `sets::word::without` meets its contract: below 64 no bit is shifted out.
-- Assumes nothing.
use mathlib.Core.Path.{ap, ◌∙◌}
use Rattle.sets.specs.Sets.{difference}
use Rattle.sets.proofs.Bounds.{one_shifted}
use Rattle.sets.proofs.word.without.Goals as goal

pub returns : goal.returns
returns c =
    let a = c.args in
    c.difference.ensures ∙ ap (difference a.s) (one_shifted a.p 64 c.requires)
