use Rattle.std.proofs.Common.{ℕ, ap, ◌∙◌, ap₂}
use Rattle.sets.specs.Sets.{union, within}
use Rattle.records.proofs.SetWords.{four-within}
use Rattle.records.proofs.users.words_exist.Goals as goal

pub returns : goal.returns
returns c =
    let all = c.args.all in
    let one = c.union-one.ensures ∙ ap₂ union c.number8.ensures c.number8-2.ensures in
    let two = c.union-two.ensures ∙ ap₂ union c.number8-3.ensures c.number8-4.ensures in
    c.within.ensures ∙ ap (λ (s : ℕ). within s all) (c.union.ensures ∙ ap₂ union one two) ∙ four-within _ _ _ _ all
