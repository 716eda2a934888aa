-- `sets::groups::Groups::by_words` meets its contract: each word is what the operation gives. Assumes nothing.
use Rattle.sets.proofs.groups.Groups.by_words.Goals as goal

pub returns : goal.returns
returns g c f is =
    let a = c.args.self in
    let b = c.args.other in
    rw (c.of_words.ensures, is a.w0 b.w0 _ c.op.ensures, is a.w1 b.w1 _ c.op-2.ensures, is a.w2 b.w2 _ c.op-3.ensures, is a.w3 b.w3 _ c.op-4.ensures)
