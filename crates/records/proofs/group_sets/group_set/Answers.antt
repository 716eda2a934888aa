use Rattle.std.proofs.Common.{sym, ◌∙◌, rules}
use Rattle.sets.proofs.Words.{joined-alone}
use Rattle.records.specs.Fields.{groups_at}
use Rattle.records.proofs.group_sets.group_set.Goals as goal

pub returns-in-One : goal.returns-in-One
unfolding groups_at
returns-in-One c = rw c.in-One.is (c.of_word.ensures ∙ c.number8.ensures ∙ sym (joined-alone _ 0 (search rules)))

pub returns-in-Two : goal.returns-in-Two
unfolding groups_at
returns-in-Two c =
    rw c.in-Two.is
    (c.of_words.ensures ∙ rw (c.number8-in-Two.ensures, c.number8-in-Two-2.ensures, c.number8-in-Two-3.ensures, c.number8-in-Two-4.ensures))
