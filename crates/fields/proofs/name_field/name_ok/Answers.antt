use mathlib.Core.Path.{◌∙◌}
use native.Mathlib.Nat.{add-sub_cancel_left}
use native.Mathlib.Omega.{arith}
use borrow.Author.Tests.{lt-leb, le-leb}
use Rattle.fields.specs.Names.{name_rule}
use Rattle.fields.specs.Scan.{list_from}
use Rattle.fields.proofs.NameBytes.{name-window}
use Rattle.fields.proofs.name_field.name_ok.Goals as goal

pub returns-then-n-lt1 : goal.returns-then-n-lt1
unfolding name_rule
returns-then-n-lt1 c = simp (lt-leb _ _ c.if-n-lt1.true)

pub returns-then-n-gt30 : goal.returns-then-n-gt30
unfolding name_rule
returns-then-n-gt30 c = simp (lt-leb _ _ c.if-n-gt30.true, le-leb _ _ c.if-n-lt1.false)

pub returns : goal.returns
unfolding list_from
returns c =
    c.letters_ok.ensures ∙ rw add-sub_cancel_left (name-window c.args.window.now c.args.n (omega arith) (omega arith) c.requires)
