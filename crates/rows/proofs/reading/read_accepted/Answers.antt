use mathlib.Core.Path.{sym, ◌∙◌}
use Rattle.header.proofs.Inside.{header-inside}
use Rattle.image.proofs.Accepted.{accepted-counted}
use Rattle.access.specs.Rights.{rights_of}
use Rattle.rows.specs.Run.{run_rows}
use Rattle.rows.proofs.EveryRow.{every-kept}
use Rattle.rows.proofs.reading.read_accepted.Goals as goal

pub unknown_read-requires : goal.unknown_read-requires
unknown_read-requires c = header-inside _ (accepted-counted _ c.requires.accepted).fitted

pub returns-then-unknown_read : goal.returns-then-unknown_read
returns-then-unknown_read c =
    let a = c.args in
    let all = every-kept a.image.now (rights_of a.view) (sym c.unknown_read.ensures ∙ c.if-unknown_read.true) in
    rw (all (run_rows a.run.now a.width)) c.read_whole.ensures
