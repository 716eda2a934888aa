use mathlib.Core.Path.{sym, ◌∙◌}
use Rattle.header.proofs.Inside.{header-inside}
use Rattle.image.proofs.Accepted.{accepted-counted}
use Rattle.access.specs.Rights.{rights_of}
use Rattle.rows.specs.Table.{row_readable}
use Rattle.rows.proofs.EveryRow.{every-row, nth-all}
use Rattle.rows.proofs.offsets.nth_offset.Goals as goal

pub unknown_read-requires : goal.unknown_read-requires
unknown_read-requires c = header-inside _ (accepted-counted _ c.requires.accepted).fitted

pub returns-then-unknown_read : goal.returns-then-unknown_read
returns-then-unknown_read c =
    let a = c.args in
    let all = every-row a.image.now (rights_of a.view) (sym c.unknown_read.ensures ∙ c.if-unknown_read.true) in
    c.nth_of_all.ensures ∙ sym (nth-all (row_readable a.image.now (rights_of a.view)) all _ _ c.requires.whole a.n)

pub nth_of_many-requires : goal.nth_of_many-requires
nth_of_many-requires c =
    record { usable = c.requires; view_value = sym c.unknown_read.ensures ∙ c.if-unknown_read.false }
