use mathlib.Core.Path.{sym, ap, ◌∙◌}
use lib.ListN.{length}
use Rattle.printing.proofs.Whole.{has-level, told, length-level, length-first, length_both}
use Rattle.printing.proofs.writing.text_length.Goals as goal

pub name_of-level-requires : goal.name_of-level-requires
name_of-level-requires c =
    let pre = c.requires in
    (pre.0, has-level _ _ pre.1)

pub returns-then-is_empty : goal.returns-then-is_empty
returns-then-is_empty c =
    length-level _ _ c.name_of-level.ensures.0
    (told c.is_empty.ensures c.is_empty-2.ensures c.if-is_empty.true)

pub returns-then-is_empty-2 : goal.returns-then-is_empty-2
returns-then-is_empty-2 c =
    length-first _ _ c.name_of-level.ensures.0
    (told c.is_empty.ensures c.is_empty-2.ensures c.if-is_empty.false)
    (sym c.is_empty-3.ensures ∙ c.if-is_empty-2.true)
    (c.length.ensures.0 ∙ ap length c.compartments.ensures)

pub returns : goal.returns
returns c =
    length_both _ _ c.name_of-level.ensures.0
    (sym c.is_empty-3.ensures ∙ c.if-is_empty-2.false)
    (c.length.ensures.0 ∙ ap length c.compartments.ensures)
    (c.length-2.ensures.0 ∙ ap length c.groups.ensures)
