use Rattle.refusals.specs.Answers.{Checked}
use Prim.Native.Nat.{ℕ}
use mathlib.Core.List.{List}
use mathlib.Core.Path.{sym, ap, ◌∙◌}
use borrow.Author.Tests.{not-true, not-false}
use Rattle.abi.proofs.RowPlaces.{update-fits}
use Rattle.abi.proofs.brawnesk_update.Goals as goal

pub returns-then-not-one_user : goal.returns-then-not-one_user
returns-then-not-one_user c = rw (sym c.one_user.ensures ∙ c.if-not-one_user.true, c.after_check.ensures)

pub checked_code-requires : goal.checked_code-requires
checked_code-requires c = rw (ap (λ (p : Checked × List ℕ). p.0) c.update.ensures) (update-fits _ _ _ _ _ _)

pub returns : goal.returns
returns c =
    let one = sym c.one_user.ensures ∙ c.if-not-one_user.false in
    rw (one, ← c.session_in.ensures, ← c.update.ensures, c.checked_code.ensures)
