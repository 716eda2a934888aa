use mathlib.Core.Path.{sym, ◌∙◌}
use Rattle.access.specs.Verdicts.{read_compartments_rule}
use Rattle.access.proofs.ReadTests.{by_level, by-compartments, by-compaccess, by-groups}
use Rattle.access.proofs.verdicts.read_tests.Goals as goal

pub returns-then-not-read_level : goal.returns-then-not-read_level
returns-then-not-read_level c = by_level _ _ (sym c.read_level.ensures ∙ c.if-not-read_level.true)

pub returns-then-not-within : goal.returns-then-not-within
unfolding read_compartments_rule
returns-then-not-within c =
    by-compartments _ _ (sym c.read_level.ensures ∙ c.if-not-read_level.false)
    (sym c.within.ensures ∙ c.if-not-within.true)

pub returns-then-holds_compaccess-is_empty : goal.returns-then-holds_compaccess-is_empty
unfolding read_compartments_rule
returns-then-holds_compaccess-is_empty c =
    by-compaccess _ _ (sym c.read_level.ensures ∙ c.if-not-read_level.false)
    (sym c.within.ensures ∙ c.if-not-within.false)
    (rw (← c.is_empty.ensures, ← c.holds_compaccess.ensures) c.if-holds_compaccess-is_empty.true)

pub returns : goal.returns
unfolding read_compartments_rule
returns c =
    c.read_groups.ensures
    ∙ by-groups _ _ (sym c.read_level.ensures ∙ c.if-not-read_level.false)
    (sym c.within.ensures ∙ c.if-not-within.false)
    (rw (← c.is_empty.ensures, ← c.holds_compaccess.ensures) c.if-holds_compaccess-is_empty.false)
