use mathlib.Core.Path.{sym, ◌∙◌}
use borrow.Author.Tests.{not-true, not-false}
use Rattle.abi.proofs.RowPlaces.{masked-fits}
use Rattle.abi.proofs.brawnesk_masked.Goals as goal

pub returns-then-not-one_user : goal.returns-then-not-one_user
returns-then-not-one_user c = rw (sym c.one_user.ensures ∙ c.if-not-one_user.true, c.after_check.ensures)

pub verdict_code-requires : goal.verdict_code-requires
verdict_code-requires c = rw c.masked_verdict.ensures (masked-fits _ _ _ _ _)

pub returns : goal.returns
returns c =
    let one = sym c.one_user.ensures ∙ c.if-not-one_user.false in
    rw (one, c.verdict_code.ensures, c.masked_verdict.ensures, c.session_in.ensures)
