use mathlib.Core.Path.{◌∙◌}
use native.Mathlib.Omega.{arith}
use Rattle.hierarchy.proofs.UsersInRows.{words_are}
use Rattle.hierarchy.proofs.users.words_in.Goals as goal

pub returns : goal.returns
returns c =
    words_are _ _ (λ k. omega (arith, c.type_inv.rec k)) (c.of_word.ensures ∙ c.number8.ensures)
    (c.of_word-2.ensures ∙ c.number8-2.ensures) (c.of_word-3.ensures ∙ c.number8-3.ensures)
    (c.of_word-4.ensures ∙ c.number8-4.ensures)
