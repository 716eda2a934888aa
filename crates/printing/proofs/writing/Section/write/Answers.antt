use native.Mathlib.Omega.{arith}
use Rattle.printing.proofs.Sections.{list-room, colon-room, colon-alone, colon-list}
use Rattle.printing.proofs.writing.Section.write.Goals as goal

pub write_list-end-requires : goal.write_list-end-requires
write_list-end-requires c = list-room _ _ _ _ _ _ c.requires

pub bounds-buffer-at : goal.bounds-buffer-at
bounds-buffer-at c =
    let e = c.write_list-end.auto.buffer in
    let h = colon-room _ _ _ _ _ _ c.requires in
    omega (arith, e, h)

pub returns-then-end-at : goal.returns-then-end-at
returns-then-end-at c = colon-alone _ _ _ _ _ _ _ _ c.requires c.write_list-end.ensures c.if-end-at.true

pub returns : goal.returns
returns c = colon-list _ _ _ _ _ _ _ _ c.requires c.write_list-end.ensures c.if-end-at.false
