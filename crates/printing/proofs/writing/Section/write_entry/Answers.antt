use mathlib.Core.Path.{sym, ◌∙◌}
use native.Mathlib.Omega.{arith}
use lib.ListN.{length-set}
use Rattle.printing.proofs.Listed.{entry-lacks}
use Rattle.buffers.proofs.Left.{written_none}
use Rattle.printing.proofs.Written.{entry-room, written_entry}
use Rattle.printing.proofs.writing.Section.write_entry.Goals as goal

pub returns-then-not-has : goal.returns-then-not-has
returns-then-not-has c = written_none _ _ _ (entry-lacks _ _ _ _ (sym c.has.ensures ∙ c.if-not-has.true))

pub bounds-buffer-at : goal.bounds-buffer-at
bounds-buffer-at c =
    let h = sym c.has.ensures ∙ c.if-not-has.false in
    let room = entry-room _ _ _ _ _ _ h c.name_of-name.ensures.0 c.requires.place_in_bounds in
    omega arith

pub put-requires : goal.put-requires
put-requires c =
    let h = sym c.has.ensures ∙ c.if-not-has.false in
    rw length-set (entry-room _ _ _ _ _ _ h c.name_of-name.ensures.0 c.requires.place_in_bounds)

pub shape_of-buffer : goal.shape_of-buffer
shape_of-buffer c = rw length-set at c.put.auto.buffer

pub returns : goal.returns
returns c =
    let h = sym c.has.ensures ∙ c.if-not-has.false in
    written_entry _ _ _ _ _ _ _ _ _ h c.name_of-name.ensures.0 c.requires.place_in_bounds c.put.ensures
