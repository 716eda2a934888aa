use native.Mathlib.Omega.{arith}
use Rattle.header.proofs.Inside.{header-inside}
use Rattle.labels.proofs.Classes.{class-inside, place_found}
use Rattle.labels.proofs.names.place_of_name.Goals as goal

pub class_count-count-requires : goal.class_count-count-requires
class_count-count-requires c = header-inside _ c.requires.0.fitted

pub class_first-start-requires : goal.class_first-start-requires
class_first-start-requires c = header-inside _ c.requires.0.fitted

pub first_named-requires : goal.first_named-requires
first_named-requires c =
    let a = c.args in
    (c.requires.0.fitted, (omega (arith, class-inside a.image.now a.class), omega arith))

pub overflow_sub-result : goal.overflow_sub-result
overflow_sub-result c =
    let a = c.args in
    omega (arith, place_found a.image.now a.class a.name.now _ _ _ c.class_first-start.ensures.0 c.class_count-count.ensures.0 c.first_named.ensures)

pub returns : goal.returns
returns c =
    let a = c.args in
    omega (arith, place_found a.image.now a.class a.name.now _ _ _ c.class_first-start.ensures.0 c.class_count-count.ensures.0 c.first_named.ensures)
