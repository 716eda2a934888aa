use borrow.Author.Tests.{le-leb, lt-leb}
use Rattle.labels.specs.Text.{shape_rule}
use Rattle.labels.proofs.Reading.{reads-shape}
use Rattle.labels.proofs.shape.shape_ok.Goals as goal

pub returns-then-limit-text : goal.returns-then-limit-text
unfolding shape_rule
returns-then-limit-text c = rw (lt-leb _ _ c.if-limit-text.true)

pub returns : goal.returns
unfolding shape_rule
returns c = rw (le-leb _ _ c.if-limit-text.false, ← reads-shape, ← c.after_all.ensures) c.ends_well.ensures
