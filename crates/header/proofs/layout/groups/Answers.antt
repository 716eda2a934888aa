use mathlib.Core.Path.{sym, ◌∙◌}
use native.Mathlib.Omega.{arith}
use Rattle.header.specs.Layout.{groups}
use Rattle.header.proofs.layout.groups.Goals as goal

pub returns-in-One : goal.returns-in-One
unfolding groups
returns-in-One c =
    let one = sym c.edition_of.ensures ∙ c.in-One.is in
    (rw one, omega (arith, c.type_inv.image 7))

pub returns-in-Two : goal.returns-in-Two
unfolding groups
returns-in-Two c =
    let two = sym c.edition_of.ensures ∙ c.in-Two.is in
    (rw two c.number2.ensures.0, c.number2.ensures.1)
