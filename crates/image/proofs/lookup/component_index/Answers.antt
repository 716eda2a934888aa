use native.Mathlib.Omega.{arith}
use Rattle.header.specs.Layout.{components}
use Rattle.header.proofs.Editions.{counted-groups}
use Rattle.header.proofs.Inside.{header-inside}
use Rattle.image.specs.Lookup.{component_index}
use Rattle.image.proofs.Placed.{placed-index}
use Rattle.image.proofs.lookup.component_index.Goals as goal

pub class_first-requires : goal.class_first-requires
class_first-requires c = header-inside _ c.requires.0.fitted

pub overflow_add-result : goal.overflow_add-result
unfolding component_index components
overflow_add-result c = let p = c.requires in omega (arith, placed-index _ _ _ p.1, p.0.levels_limit, p.0.compartments_limit, counted-groups _ p.0)

pub returns : goal.returns
unfolding component_index
returns c = (rw c.class_first.ensures.0, omega (arith, placed-index _ _ _ c.requires.1))
