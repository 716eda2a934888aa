-- `sets::groups::Groups::is_empty` meets its contract, by what the words' test ensures. Assumes nothing.
use Rattle.sets.specs.Groups.{places_of, words_in}
use Rattle.sets.proofs.EachWord.{joined-empty}
use borrow.Author.Rules.{rules}
use Rattle.sets.proofs.groups.Groups.is_empty.Goals as goal

pub returns : goal.returns
unfolding places_of
returns c =
    rw (c.is_empty.ensures, c.is_empty-2.ensures, c.is_empty-3.ensures, c.is_empty-4.ensures)
    (joined-empty (words_in c.args.self) (search rules))
