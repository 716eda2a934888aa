use mathlib.Core.Path.{sym, ◌∙◌}
use Rattle.labels.specs.Label.{marks_of}
use Rattle.printing.proofs.Whole.{has-level, told, room-level, room-first, room-second, written-level, written-first, written_both}
use Rattle.printing.proofs.writing.write_text.Goals as goal

pub name_of-name-requires : goal.name_of-name-requires
name_of-name-requires c =
    (c.requires.accepted.0, has-level _ _ c.requires.accepted.1)

pub put-level-requires : goal.put-level-requires
put-level-requires c =
    room-level c.args.image.now (marks_of c.args.label) c.args.buffer.now _
    c.name_of-name.ensures.0 c.requires.label_in_bounds

pub returns-then-is_empty : goal.returns-then-is_empty
returns-then-is_empty c =
    written-level _ _ _ _ c.name_of-name.ensures.0 c.requires.label_in_bounds
    (told c.is_empty.ensures c.is_empty-2.ensures c.if-is_empty.true) c.put-level.ensures

pub write-first-requires : goal.write-first-requires
write-first-requires c =
    rw c.compartments.ensures
    (room-first _ _ _ _ c.name_of-name.ensures.0 c.requires.label_in_bounds
    (told c.is_empty.ensures c.is_empty-2.ensures c.if-is_empty.false) c.put-level.ensures)

pub returns-then-is_empty-2 : goal.returns-then-is_empty-2
returns-then-is_empty-2 c =
    written-first _ _ _ _ c.name_of-name.ensures.0 c.requires.label_in_bounds
    (told c.is_empty.ensures c.is_empty-2.ensures c.if-is_empty.false) c.put-level.ensures
    (rw c.compartments.ensures at c.write-first.ensures) (sym c.is_empty-3.ensures ∙ c.if-is_empty-2.true)

pub write-requires : goal.write-requires
write-requires c =
    rw c.groups.ensures
    (room-second _ _ _ _ c.name_of-name.ensures.0 c.requires.label_in_bounds
    (told c.is_empty.ensures c.is_empty-2.ensures c.if-is_empty.false) c.put-level.ensures
    (rw c.compartments.ensures at c.write-first.ensures) (sym c.is_empty-3.ensures ∙ c.if-is_empty-2.false))

pub returns : goal.returns
returns c =
    written_both _ _ _ _ c.name_of-name.ensures.0 c.requires.label_in_bounds
    (told c.is_empty.ensures c.is_empty-2.ensures c.if-is_empty.false) c.put-level.ensures
    (rw c.compartments.ensures at c.write-first.ensures) (sym c.is_empty-3.ensures ∙ c.if-is_empty-2.false)
    (rw c.groups.ensures at c.write.ensures)
