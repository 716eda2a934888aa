use borrow.Author.Tests.{not-true, not-false}
use Rattle.abi.proofs.Places.{may-read-fits}
use mathlib.Core.Path.{sym, ◌∙◌}
use Rattle.abi.proofs.brawnesk_may_read.Goals as goal

pub returns-then-not-one_user : goal.returns-then-not-one_user
returns-then-not-one_user c = rw (sym c.one_user.ensures ∙ c.if-not-one_user.true, c.after_check.ensures)

pub verdict_code-requires : goal.verdict_code-requires
verdict_code-requires c = rw c.may_read.ensures (may-read-fits _ _ _)

pub returns : goal.returns
returns c =
    let one = sym c.one_user.ensures ∙ c.if-not-one_user.false in
    rw (one, c.verdict_code.ensures, c.may_read.ensures, c.session_in.ensures)
