use borrow.Author.Rules.{rules}
use Rattle.hierarchy.proofs.UsersInRows.{sets-read}
use Rattle.hierarchy.proofs.users.sets_or_none.Goals as goal

pub returns : goal.returns
returns c =
    sets-read _ _ _ (λ rec. rec.now) c.user_record.result _ c.user_record.ensures (search rules)
