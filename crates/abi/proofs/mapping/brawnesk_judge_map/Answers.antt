use mathlib.Core.Path.{sym, ◌∙◌}
use borrow.Author.Tests.{not-true, not-false}
use Rattle.abi.proofs.MapPlaces.{judge-fits}
use Rattle.abi.proofs.mapping.brawnesk_judge_map.Goals as goal

pub returns-then-not-one_user : goal.returns-then-not-one_user
returns-then-not-one_user c = rw (sym c.one_user.ensures ∙ c.if-not-one_user.true, c.after_check.ensures)

pub checked_code-requires : goal.checked_code-requires
checked_code-requires c = rw c.judge_map.ensures (judge-fits _ _ _)

pub returns : goal.returns
returns c =
    let one = sym c.one_user.ensures ∙ c.if-not-one_user.false in
    rw (one, c.checked_code.ensures, c.judge_map.ensures, c.session_in.ensures)
