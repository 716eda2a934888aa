use native.Mathlib.Omega.{arith}
use Rattle.header.proofs.Inside.{header-inside}
use Rattle.hierarchy.proofs.UsersHeld.{image-base, image-held}
use Rattle.hierarchy.proofs.users.in_image.Goals as goal

pub shape_of-shape-requires : goal.shape_of-shape-requires
shape_of-shape-requires c = header-inside _ c.requires.fitted

pub edition_of-requires : goal.edition_of-requires
edition_of-requires c = header-inside _ c.requires.fitted

pub overflow_mul-result : goal.overflow_mul-result
overflow_mul-result c =
    omega (arith, image-base c.args.image.now _ c.requires c.shape_of-shape.ensures)

pub overflow_add-result : goal.overflow_add-result
overflow_add-result c =
    omega (arith, image-base c.args.image.now _ c.requires c.shape_of-shape.ensures)

pub returns : goal.returns
returns c =
    image-held _ _ _ c.requires c.shape_of-shape.ensures c.edition_of.ensures
