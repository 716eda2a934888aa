use mathlib.Core.Path.{sym, ◌∙◌}
use Rattle.access.specs.NewLabels.{row_label_answer}
use Rattle.access.proofs.new_labels.row_label_answer.Goals as goal

pub returns-then-not-is_between : goal.returns-then-not-is_between
unfolding row_label_answer
returns-then-not-is_between c = rw (sym c.is_between.ensures ∙ c.if-not-is_between.true)

pub returns-then-not-within : goal.returns-then-not-within
unfolding row_label_answer
returns-then-not-within c =
    rw (sym c.is_between.ensures ∙ c.if-not-is_between.false, sym c.within.ensures ∙ c.if-not-within.true)

pub returns-then-not-row_groups_ok : goal.returns-then-not-row_groups_ok
unfolding row_label_answer
returns-then-not-row_groups_ok c =
    rw (
      sym c.is_between.ensures ∙ c.if-not-is_between.false,
      sym c.within.ensures ∙ c.if-not-within.false,
      sym c.row_groups_ok.ensures ∙ c.if-not-row_groups_ok.true,
    )

pub returns : goal.returns
unfolding row_label_answer
returns c =
    rw (
      sym c.is_between.ensures ∙ c.if-not-is_between.false,
      sym c.within.ensures ∙ c.if-not-within.false,
      sym c.row_groups_ok.ensures ∙ c.if-not-row_groups_ok.false,
    )
