-- `sets::groups::Groups::meets` meets its contract, by what the words' test ensures. Assumes nothing.
use mathlib.Core.Path.{refl}
use mathlib.Core.List.{zip_with}
use Rattle.sets.specs.Groups.{places_of, words_in}
use Rattle.sets.proofs.EachWord.{joined_meets}
use Rattle.sets.proofs.Words.{AreWords}
use borrow.Author.Rules.{rules}
use Rattle.sets.proofs.groups.Groups.meets.Goals as goal

pub returns : goal.returns
unfolding places_of zip_with
returns c =
    let a = c.args in
    let own : AreWords (words_in a.self) = search rules in
    let others : AreWords (words_in a.other) = search rules in
    rw (c.meets.ensures, c.meets-2.ensures, c.meets-3.ensures, c.meets-4.ensures)
    (joined_meets (words_in a.self) (words_in a.other) refl own others)
