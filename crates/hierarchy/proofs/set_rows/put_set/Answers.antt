use Rattle.sets.proofs.Places.{places-below}
use Rattle.hierarchy.proofs.PutSets.{set-put}
use Rattle.hierarchy.proofs.set_rows.put_set.Goals as goal

pub returns : goal.returns
returns c =
    set-put _ _ _ _ _ _ c.requires.0 c.requires.1 _ (places-below c.args.s) c.word.ensures
    c.word-2.ensures c.word-3.ensures c.word-4.ensures
