use Rattle.hierarchy.proofs.PutSets.{user-put}
use Rattle.hierarchy.proofs.set_rows.put_user.Goals as goal

pub returns : goal.returns
returns c =
    user-put _ _ _ _ _ _ _ c.requires.1 c.put_set.ensures c.put_set-2.ensures c.put_set-3.ensures c.put_set-4.ensures
