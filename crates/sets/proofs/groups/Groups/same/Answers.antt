-- `sets::groups::Groups::same` meets its contract: the words are the same, one by one. Assumes nothing.
use borrow.Author.Rules.{rules}
use mathlib.Core.Path.{refl, ◌∙◌}
use mathlib.Core.Bool.{and_assoc}
use mathlib.Core.List.{zip_with}
use Rattle.sets.specs.Groups.{places_of, words_in}
use Rattle.sets.proofs.EachWord.{joined-eqb}
use Rattle.sets.proofs.groups.Groups.same.Goals as goal

pub returns : goal.returns
unfolding places_of zip_with
returns c =
    let a = c.args in
    c.eq.ensures ∙ simp and_assoc at (joined-eqb (words_in a.self) (words_in a.other) refl (search rules) (search rules))
