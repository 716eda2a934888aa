-- `sets::groups::Groups::of_word` meets its contract: the words past the first are empty. Assumes nothing.
use mathlib.Core.Path.{◌∙◌}
use Rattle.sets.proofs.Words.{joined-alone}
use borrow.Author.Rules.{rules}
use Rattle.sets.proofs.groups.Groups.of_word.Goals as goal

pub returns : goal.returns
returns c = c.of_words.ensures ∙ joined-alone c.args.w 3 (search rules)
