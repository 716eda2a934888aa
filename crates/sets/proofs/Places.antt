-- The places of a `Groups` value. Assumes nothing.
use Prim.Native.Nat.{◌^◌, ◌<◌}
use Rattle.sets.specs.Groups.{places_of, words_in, width}
use Rattle.sets.specs.declared.groups.Groups.{Groups}
use Rattle.sets.proofs.Words.{joined-below}

pub places-below : (g : Groups) → places_of g < 2 ^ width
unfolding places_of
places-below g = joined-below (words_in g)
