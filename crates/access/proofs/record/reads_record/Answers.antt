use mathlib.Core.Path.{sym, ◌∙◌}
use borrow.Author.Tests.{lt-leb, le-leb}
use Rattle.access.specs.Verdicts.{read_level_rule, read_groups_rule, read_compartments_rule}
use Rattle.access.proofs.ReadTests.{by_all, by_tests, by_level, by-compartments, by-compaccess, by-groups}
use Rattle.access.proofs.record.reads_record.Goals as goal

pub returns-then-reads_all : goal.returns-then-reads_all
returns-then-reads_all c = by_all _ _ (sym c.reads_all.ensures ∙ c.if-reads_all.true)

pub returns-then-view-rec : goal.returns-then-view-rec
unfolding read_level_rule
returns-then-view-rec c =
    by_level _ _ (lt-leb _ _ c.if-view-rec.true) ∙ by_tests _ _ (sym c.reads_all.ensures ∙ c.if-reads_all.false)

pub returns-then-not-within : goal.returns-then-not-within
unfolding read_level_rule read_compartments_rule
returns-then-not-within c =
    let none = sym c.reads_all.ensures ∙ c.if-reads_all.false in
    by-compartments _ _ (le-leb _ _ c.if-view-rec.false)
    (rw (← c.number8-compartments.ensures) (sym c.within.ensures ∙ c.if-not-within.true))
    ∙ by_tests _ _ none

pub returns-then-holds_compaccess-is_empty : goal.returns-then-holds_compaccess-is_empty
unfolding read_level_rule read_compartments_rule
returns-then-holds_compaccess-is_empty c =
    let none = sym c.reads_all.ensures ∙ c.if-reads_all.false in
    by-compaccess _ _ (le-leb _ _ c.if-view-rec.false)
    (rw (← c.number8-compartments.ensures) (sym c.within.ensures ∙ c.if-not-within.false))
    (rw (← c.number8-compartments.ensures, ← c.is_empty.ensures, ← c.holds_compaccess.ensures) c.if-holds_compaccess-is_empty.true)
    ∙ by_tests _ _ none

pub returns : goal.returns
unfolding read_level_rule read_compartments_rule read_groups_rule
returns c =
    let none = sym c.reads_all.ensures ∙ c.if-reads_all.false in
    c.passes.ensures ∙ rw c.group_set.ensures
    (by-groups _ _ (le-leb _ _ c.if-view-rec.false)
    (rw (← c.number8-compartments.ensures) (sym c.within.ensures ∙ c.if-not-within.false))
    (rw (← c.number8-compartments.ensures, ← c.is_empty.ensures, ← c.holds_compaccess.ensures) c.if-holds_compaccess-is_empty.false)
    ∙ by_tests _ _ none)
