use mathlib.Core.Path.{◌≡◌, ap}
use native.Mathlib.Omega.{arith}
use Rattle.header.specs.declared.layout.Kind.TheVariants.{User}
use Rattle.header.specs.declared.layout.Shape.{Shape}
use Rattle.header.specs.Layout.{shape_of, record_block}
use Rattle.header.proofs.Inside.{header-inside, shape-roomy, slot-below, block-among, blocks-among}
use Rattle.image.proofs.Place.{user-block-few}
use Rattle.image.proofs.inspect.below_fault.Goals as goal

pub shape_of-shape-requires : goal.shape_of-shape-requires
shape_of-shape-requires c = header-inside _ c.requires.0.fitted

pub record_block-b-requires : goal.record_block-b-requires
record_block-b-requires c =
    let im = c.args.image.now in
    let s = c.shape_of-shape.ensures in
    (s.roomy, rw s.is (omega (arith, block-among (shape_of im User) (shape-roomy im User) c.args.u c.requires.1, blocks-among im User)))

pub record_slot-r-requires : goal.record_slot-r-requires
record_slot-r-requires c = c.shape_of-shape.ensures.roomy

-- block and place there fit 16 bits
pub overflow_cast-block : goal.overflow_cast-block
overflow_cast-block c =
    let im = c.args.image.now in
    let u = c.args.u in
    let e : record_block c.shape_of-shape.result u ≡ record_block (shape_of im User) u = ap (λ (s : Shape). record_block s u) c.shape_of-shape.ensures.is in
    omega (arith, c.record_block-b.ensures, e, user-block-few im c.requires.0 u c.requires.1)

pub overflow_cast-slot : goal.overflow_cast-slot
overflow_cast-slot c =
    let roomy = c.shape_of-shape.ensures.roomy in
    omega (arith, c.record_slot-r.ensures, slot-below c.shape_of-shape.result roomy c.args.u, roomy.few)

pub returns : goal.returns
returns c = rw (c.record_block-b.ensures, c.record_slot-r.ensures, c.shape_of-shape.ensures.is)
