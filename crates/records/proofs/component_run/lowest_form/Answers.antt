use Rattle.std.proofs.Common.{sym, ◌∙◌, eq-eqb, ne_eqb}
use Rattle.records.specs.ComponentRuns.{lowest_form}
use Rattle.records.proofs.component_run.lowest_form.Goals as goal

pub returns-then-i-class_start : goal.returns-then-i-class_start
unfolding lowest_form
returns-then-i-class_start c = rw (eq-eqb _ _ (c.if-i-class_start.true ∙ c.class_start.ensures.0))

pub returns : goal.returns
unfolding lowest_form
returns c =
    rw (ne_eqb _ _ (λ e. c.if-i-class_start.false (e ∙ sym c.class_start.ensures.0)), c.number2.ensures.0)
