-- `sets::groups::Groups::none` meets its contract: the empty set is 0. Assumes nothing.
use mathlib.Core.Path.{◌∙◌}
use Rattle.sets.proofs.Words.{joined-none}
use Rattle.sets.proofs.groups.Groups.none.Goals as goal

pub returns : goal.returns
returns c = c.of_words.ensures ∙ joined-none 4
