-- `sets::groups::Groups::all_below` meets its contract, by what the words' sets ensure. Assumes nothing.
use mathlib.Core.Path.{◌∙◌}
use Rattle.sets.proofs.EachWord.{joined-all_below}
use borrow.Author.Rules.{rules}
use Rattle.sets.proofs.groups.Groups.all_below.Goals as goal

pub returns : goal.returns
returns c =
    c.of_words.ensures
    ∙ rw (c.all_below_from.ensures, c.all_below_from-2.ensures, c.all_below_from-3.ensures, c.all_below_from-4.ensures)
    (joined-all_below 4 c.args.n (search rules))
