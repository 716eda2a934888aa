use Rattle.std.proofs.lemmas.Result.{err_from_is_err_and}
use Rattle.sessions.specs.Changes.{row_label_change}
use Rattle.sessions.proofs.changes.change_row_label.Goals as goal

pub returns-in_err-read_text : goal.returns-in_err-read_text
unfolding row_label_change
returns-in_err-read_text c =
    let p = err_from_is_err_and c.from_residual.result c.from_residual.ensures.1 in
    rw (p.1, p.2, ← c.read_text.ensures, c.in_err-read_text.was)

pub returns : goal.returns
unfolding row_label_change
returns c = rw (← c.read_text.ensures, c.in_ok-read_text.was, ← c.requires.1) c.put_row_label.ensures
