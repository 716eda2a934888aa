use borrow.Author.Tests.{eq-eqb, ne_eqb}
use Rattle.labels.proofs.shape.after_byte.Goals as goal

pub returns-then-text_byte : goal.returns-then-text_byte
returns-then-text_byte c = rw (← c.text_byte.ensures, c.if-text_byte.true) c.after_name_byte.ensures

pub returns-then-x-eq44 : goal.returns-then-x-eq44
returns-then-x-eq44 c = rw (← c.text_byte.ensures, c.if-text_byte.false, eq-eqb _ _ c.if-x-eq44.true) c.after_comma.ensures

pub returns-then-x-eq58 : goal.returns-then-x-eq58
returns-then-x-eq58 c =
    rw (← c.text_byte.ensures, c.if-text_byte.false, ne_eqb _ _ c.if-x-eq44.false, eq-eqb _ _ c.if-x-eq58.true)
    c.after_colon.ensures

pub returns : goal.returns
returns c = rw (← c.text_byte.ensures, c.if-text_byte.false, ne_eqb _ _ c.if-x-eq44.false, ne_eqb _ _ c.if-x-eq58.false)
