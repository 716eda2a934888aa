use native.Mathlib.Omega.{arith}
use Rattle.header.specs.declared.layout.Kind.TheVariants.{Component}
use Rattle.header.proofs.Inside.{header-inside, record-inside, offset-shaped}
use Rattle.header.proofs.layout.component_name_offset.Goals as goal

pub shape_of-requires : goal.shape_of-requires
shape_of-requires c = header-inside _ c.requires.0

pub record_offset-requires : goal.record_offset-requires
record_offset-requires c =
    let p = c.requires in
    let s = c.shape_of.ensures in
    (s.roomy, rw s.is (omega (arith, record-inside _ p.0 Component _ p.1)))

pub overflow_add-result : goal.overflow_add-result
overflow_add-result c =
    let e = offset-shaped _ _ _ _ _ c.shape_of.ensures c.record_offset.ensures in
    omega (arith, record-inside _ c.requires.0 Component _ c.requires.1)
