use Rattle.refusals.specs.Answers.{Amount}
use Prim.Native.Nat.{ℕ}
use mathlib.Core.Path.{sym, ap, ◌∙◌}
use mathlib.Core.List.{List}
use borrow.Author.Tests.{not-true, not-false}
use Rattle.abi.proofs.RowPlaces.{read-mapped-fits}
use Rattle.abi.proofs.mapping.brawnesk_read_mapped.Goals as goal

pub returns-then-not-one_user : goal.returns-then-not-one_user
returns-then-not-one_user c = rw (sym c.one_user.ensures ∙ c.if-not-one_user.true, c.after_check.ensures)

pub amount_code-requires : goal.amount_code-requires
amount_code-requires c = rw (ap (λ (p : Amount × List ℕ). p.0) c.read_mapped.ensures) (read-mapped-fits _ _ _ _ _ _)

pub returns : goal.returns
returns c =
    let one = sym c.one_user.ensures ∙ c.if-not-one_user.false in
    rw (one, ← c.session_in-s.ensures, ← c.read_mapped.ensures, c.amount_code.ensures)
