use mathlib.Core.Path.{sym, ◌∙◌}
use Rattle.image.specs.Check.{IsAccepted}
use Rattle.lines.proofs.Rest.{first-accepted, first-refused}
use Rattle.lines.proofs.parts.first_part.Goals as goal

pub returns-in-Ok : goal.returns-in-Ok
returns-in-Ok c =
    let accepted : IsAccepted c.args.image.now = sym c.check_table.ensures.told ∙ c.in-Ok.is in
    first-accepted _ _ accepted (c.check_table.ensures.filled c.in-Ok.is) _

pub returns-in-Err : goal.returns-in-Err
returns-in-Err c =
    first-refused _ _ _ (sym c.check_table.ensures.told ∙ c.in-Err.is) _ c.requires c.refusal_line.ensures.0
    c.refusal_line.ensures.1
