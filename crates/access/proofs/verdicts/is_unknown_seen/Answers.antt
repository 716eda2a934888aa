use mathlib.Core.Path.{sym, ◌∙◌}
use Rattle.access.proofs.verdicts.is_unknown_seen.Goals as goal

pub returns-in-One : goal.returns-in-One
returns-in-One c = rw (sym c.edition_of.ensures ∙ c.in-One.is)

pub returns-in-Two : goal.returns-in-Two
returns-in-Two c = rw (sym c.edition_of.ensures ∙ c.in-Two.is)
