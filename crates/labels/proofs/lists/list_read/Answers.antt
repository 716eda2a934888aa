use Rattle.sets.proofs.EachWord.{four_are}
use Rattle.labels.proofs.lists.list_read.Goals as goal

pub returns-in-Read : goal.returns-in-Read
returns-in-Read c =
    rw (c.in-Read.is, c.of_words.ensures, four_are c.args.words.now c.requires)

pub returns-in-Unknown : goal.returns-in-Unknown
returns-in-Unknown c = rw c.in-Unknown.is

pub returns-in-Repeated : goal.returns-in-Repeated
returns-in-Repeated c = rw c.in-Repeated.is
