use mathlib.Core.Path.{sym, ◌∙◌}
use Rattle.moves.specs.Moving.{old_check_of}
use Rattle.moves.proofs.old.old_check.Goals as goal

pub returns-then-framed_two : goal.returns-then-framed_two
unfolding old_check_of
returns-then-framed_two c = rw (sym c.framed_two.ensures ∙ c.if-framed_two.true)

pub returns : goal.returns
unfolding old_check_of
returns c = rw (sym c.framed_two.ensures ∙ c.if-framed_two.false) c.check.ensures
