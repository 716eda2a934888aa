use mathlib.Core.Path.{sym, ◌∙◌}
use Rattle.access.proofs.ReadTests.{by_all, by_tests}
use Rattle.access.proofs.verdicts.reads_label.Goals as goal

pub returns-then-reads_all : goal.returns-then-reads_all
returns-then-reads_all c = by_all _ _ (sym c.reads_all.ensures ∙ c.if-reads_all.true)

pub returns : goal.returns
returns c =
    c.read_tests.ensures ∙ by_tests _ _ (sym c.reads_all.ensures ∙ c.if-reads_all.false)
