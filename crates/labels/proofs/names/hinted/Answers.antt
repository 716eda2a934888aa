use mathlib.Core.Path.{sym, ◌∙◌}
use native.Mathlib.Omega.{arith}
use Rattle.header.proofs.Inside.{header-inside}
use Rattle.image.specs.Lookup.{component_index}
use Rattle.labels.proofs.Classes.{class-inside}
use Rattle.labels.proofs.names.hinted.Goals as goal

pub class_count-count-requires : goal.class_count-count-requires
class_count-count-requires c = header-inside _ c.requires.fitted

pub class_first-start-requires : goal.class_first-start-requires
class_first-start-requires c = header-inside _ c.requires.fitted

pub is_named-requires : goal.is_named-requires
is_named-requires c =
    (c.requires.fitted, omega (arith, class-inside c.args.image.now c.args.class))

pub returns-then-is_named : goal.returns-then-is_named
unfolding component_index
returns-then-is_named c =
    (omega arith, λ h. rw (← c.class_first-start.ensures.0) (sym c.is_named.ensures ∙ c.if-is_named.true))
