use mathlib.Core.Path.{sym, ◌∙◌}
use native.Mathlib.Nat.{add-sub_cancel_left}
use native.Mathlib.Omega.{arith}
use Rattle.image.specs.Lookup.{name_part}
use Rattle.image.proofs.Accepted.{accepted-counted}
use Rattle.image.proofs.Placed.{answered, name-inside}
use Rattle.image.proofs.name.Goals as goal

pub returns-in_default : goal.returns-in_default
unfolding name_part
returns-in_default c = rw (← c.name_answer.ensures, c.in_default.is)

pub name_offset-at-requires : goal.name_offset-at-requires
name_offset-at-requires c =
    let k = answered _ _ _ (sym c.name_answer.ensures ∙ c.in-Ok.is) in
    (accepted-counted _ k.0, k.1)

pub name_length-requires : goal.name_length-requires
name_length-requires c =
    let k = answered _ _ _ (sym c.name_answer.ensures ∙ c.in-Ok.is) in
    (accepted-counted _ k.0, k.1)

pub overflow_add-end : goal.overflow_add-end
overflow_add-end c =
    let k = answered _ _ _ (sym c.name_answer.ensures ∙ c.in-Ok.is) in
    omega (arith, name-inside _ k.0 _ _ k.1)

pub slice_bounds-result-end-2 : goal.slice_bounds-result-end-2
slice_bounds-result-end-2 c =
    let k = answered _ _ _ (sym c.name_answer.ensures ∙ c.in-Ok.is) in
    omega (arith, name-inside _ k.0 _ _ k.1)

pub returns : goal.returns
unfolding name_part
returns c = rw (← c.name_answer.ensures, c.in-Ok.is, c.name_offset-at.ensures, c.name_length.ensures, add-sub_cancel_left)
