use mathlib.Core.Path.{◌≡◌, sym, ◌∙◌}
use native.Mathlib.Nat.{add-sub_cancel_left}
use native.Mathlib.Omega.{arith}
use lib.ListN.{length, get_or, drop, length-drop}
use lib.Seq.{take_all}
use Rattle.fields.specs.Names.{name_in}
use Rattle.fields.proofs.names.name_in.Goals as goal

pub overflow_cast-n : goal.overflow_cast-n
overflow_cast-n c = omega (arith, c.type_inv.field 0)

pub returns-then-n-gt30 : goal.returns-then-n-gt30
unfolding name_in
returns-then-n-gt30 c =
    let field = c.args.field.now in
    let long : length (drop 1 field) ≡ 30 = simp length-drop (omega arith) in
    take_all 30 (drop 1 field) (omega arith) ∙ sym (take_all (get_or field 0 0) (drop 1 field) (omega arith))

pub returns : goal.returns
unfolding name_in
returns c = rw add-sub_cancel_left
