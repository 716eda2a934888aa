use Rattle.refusals.specs.Answers.{Checked}
use Rattle.abi.proofs.Storing.{stored-fits, stored-is}
use Rattle.abi.proofs.Places.{set-row-label-fits}
use Rattle.sessions.specs.Session.{SessionMarks}
use borrow.Author.Tests.{not-true, not-false}
use mathlib.Core.Path.{sym, ap, ◌∙◌}
use Rattle.abi.proofs.brawnesk_set_row_label.Goals as goal

pub returns-then-not-one_user : goal.returns-then-not-one_user
returns-then-not-one_user c = rw (sym c.one_user.ensures ∙ c.if-not-one_user.true, c.after_check.ensures)

pub store-requires : goal.store-requires
store-requires c =
    stored-fits c.session_in.result c.set_row_label-change.result (rw (ap (λ (p : SessionMarks × Checked). p.1) c.set_row_label-change.ensures) (set-row-label-fits _ _ _))

pub returns : goal.returns
returns c =
    let one = sym c.one_user.ensures ∙ c.if-not-one_user.false in
    rw (one, ← c.session_in.ensures, ← c.set_row_label-change.ensures) (c.store.ensures ∙ stored-is c.session_in.result c.set_row_label-change.result _)
