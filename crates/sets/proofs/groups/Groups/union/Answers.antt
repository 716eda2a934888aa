-- `sets::groups::Groups::union` meets its contract, by what the words' operation ensures. Assumes nothing.
use mathlib.Core.Path.{refl, ◌∙◌}
use mathlib.Core.List.{zip_with}
use Rattle.sets.specs.Sets.{union}
use Rattle.sets.specs.Groups.{places_of, words_in}
use Rattle.sets.proofs.EachWord.{joined-union}
use Rattle.sets.proofs.groups.Groups.union.Goals as goal

pub returns : goal.returns
unfolding places_of zip_with
returns c = c.by_words.ensures union (λ x y r is. is) ∙ joined-union (words_in c.args.self) (words_in c.args.other) refl
