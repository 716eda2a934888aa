use mathlib.Core.Path.{sym, ◌∙◌}
use Rattle.std.proofs.lemmas.Result.{err_from_is_err_and}
use Rattle.labels.specs.Parse.{parse_of}
use Rattle.labels.proofs.parse.Goals as goal

pub read_text-requires : goal.read_text-requires
read_text-requires c = sym c.check.ensures ∙ c.in-Ok.is

pub returns-in_err-read_text-in-Ok : goal.returns-in_err-read_text-in-Ok
unfolding parse_of
returns-in_err-read_text-in-Ok c =
    let p = err_from_is_err_and c.from_residual.result c.from_residual.ensures.1 in
    let told = rw c.in_err-read_text-in-Ok.was at c.read_text.ensures in
    rw (p.1, p.2, ← c.check.ensures, c.in-Ok.is, ← told)

pub returns-in_ok-read_text-in-Ok : goal.returns-in_ok-read_text-in-Ok
unfolding parse_of
returns-in_ok-read_text-in-Ok c =
    let told = rw c.in_ok-read_text-in-Ok.was at c.read_text.ensures in
    rw (← c.check.ensures, c.in-Ok.is, ← told)

pub returns-in-Err : goal.returns-in-Err
unfolding parse_of
returns-in-Err c = rw (← c.check.ensures, c.in-Err.is)
