use mathlib.Core.Path.{sym, ◌∙◌}
use native.Mathlib.Omega.{arith}
use Rattle.image.proofs.Accepted.{accepted-counted}
use Rattle.image.proofs.Place.{name-place}
use Rattle.image.proofs.Placed.{answered, name-long, name-inside}
use Rattle.abi.proofs.brawnesk_name.Goals as goal

pub name_offset-offset-requires : goal.name_offset-offset-requires
name_offset-offset-requires c =
    let k = answered _ _ _ (sym c.name_answer.ensures ∙ c.in-Ok.is) in
    (accepted-counted _ k.0, k.1)

pub name_length-length-requires : goal.name_length-length-requires
name_length-length-requires c =
    let k = answered _ _ _ (sym c.name_answer.ensures ∙ c.in-Ok.is) in
    (accepted-counted _ k.0, k.1)

pub overflow_mul-result : goal.overflow_mul-result
overflow_mul-result c =
    let k = answered _ _ _ (sym c.name_answer.ensures ∙ c.in-Ok.is) in
    omega (arith, name-long _ k.0 _ _ k.1)

pub overflow_add-result : goal.overflow_add-result
overflow_add-result c =
    let k = answered _ _ _ (sym c.name_answer.ensures ∙ c.in-Ok.is) in
    omega (arith, name-long _ k.0 _ _ k.1, name-inside _ k.0 _ _ k.1)

pub refused-requires : goal.refused-requires
refused-requires c = omega (arith, name-place _ _ _ _ (sym c.name_answer.ensures ∙ c.in-Err.is))

pub returns-in-Ok : goal.returns-in-Ok
returns-in-Ok c =
    rw (← c.name_answer.ensures, c.in-Ok.is, c.name_offset-offset.ensures, c.name_length-length.ensures)

pub returns-in-Err : goal.returns-in-Err
returns-in-Err c = rw (← c.name_answer.ensures, c.in-Err.is) c.refused.ensures
