use Rattle.std.proofs.Common.{sym, ◌∙◌, eq-eqb, ne_eqb}
use Rattle.records.specs.Fresh.{alike}
use Rattle.records.proofs.fresh.is_alike.Goals as goal

pub returns-then-number8-field : goal.returns-then-number8-field
unfolding alike
returns-then-number8-field c =
    rw (ne_eqb _ _ (λ e. c.if-number8-field.true (c.number8.ensures ∙ e)))

pub returns-then-number8-field-2 : goal.returns-then-number8-field-2
unfolding alike
returns-then-number8-field-2 c =
    rw (eq-eqb _ _ (sym c.number8.ensures ∙ c.if-number8-field.false), ne_eqb _ _ (λ e. c.if-number8-field-2.true (c.number8-2.ensures ∙ e)))

pub returns-then-number8-field-3 : goal.returns-then-number8-field-3
unfolding alike
returns-then-number8-field-3 c =
    rw (
      eq-eqb _ _ (sym c.number8.ensures ∙ c.if-number8-field.false),
      eq-eqb _ _ (sym c.number8-2.ensures ∙ c.if-number8-field-2.false),
      ne_eqb _ _ (λ e. c.if-number8-field-3.true (c.number8-3.ensures ∙ e)),
    )

pub returns : goal.returns
unfolding alike
returns c =
    rw (
      eq-eqb _ _ (sym c.number8.ensures ∙ c.if-number8-field.false),
      eq-eqb _ _ (sym c.number8-2.ensures ∙ c.if-number8-field-2.false),
      eq-eqb _ _ (sym c.number8-3.ensures ∙ c.if-number8-field-3.false),
      c.number8-4.ensures,
    )
