use mathlib.Core.Path.{sym, ◌∙◌}
use native.Mathlib.Omega.{arith}
use Rattle.labels.proofs.Classes.{class-limit}
use Rattle.labels.proofs.Naming.{found_below}
use Rattle.labels.proofs.Joining.{level-unknown, level-found}
use Rattle.image.proofs.Accepted.{accepted-counted}
use Rattle.labels.proofs.parts.read_parts.Goals as goal

pub find_by-requires : goal.find_by-requires
find_by-requires c = (c.requires, (omega arith, omega arith))

pub returns-in_default : goal.returns-in_default
returns-in_default c =
    let ends = c.mark_from-end.ensures in
    level-unknown _ _ _ ends.0 ends.1.1 (sym c.find_by.ensures ∙ c.in_default.is)

pub overflow_cast-level : goal.overflow_cast-level
overflow_cast-level c =
    omega (arith, found_below _ _ _ _ (sym c.find_by.ensures ∙ c.in-Some.is), class-limit _ 1 (accepted-counted _ c.requires))

pub returns : goal.returns
returns c =
    let ends = c.mark_from-end.ensures in
    c.read_sets.ensures ∙ level-found _ _ _ ends.0 ends.1.1 _ (sym c.find_by.ensures ∙ c.in-Some.is)
