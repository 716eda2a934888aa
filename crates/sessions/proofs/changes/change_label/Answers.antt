use Rattle.std.proofs.lemmas.Result.{err_from_is_err_and}
use Rattle.image.proofs.Accepted.{accepted-counted}
use Rattle.sessions.specs.Changes.{label_change}
use Rattle.sessions.proofs.changes.change_label.Goals as goal

pub put_label-requires : goal.put_label-requires
put_label-requires c = (accepted-counted _ c.requires.0, c.requires.1)

pub returns-in_err-read_text : goal.returns-in_err-read_text
unfolding label_change
returns-in_err-read_text c =
    let p = err_from_is_err_and c.from_residual.result c.from_residual.ensures.1 in
    rw (p.1, p.2, ← c.read_text.ensures, c.in_err-read_text.was)

pub returns : goal.returns
unfolding label_change
returns c = rw (← c.read_text.ensures, c.in_ok-read_text.was) c.put_label.ensures
