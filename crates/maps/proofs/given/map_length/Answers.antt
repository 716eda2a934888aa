use native.Mathlib.Omega.{arith}
use Rattle.header.proofs.Inside.{header-inside}
use Rattle.maps.specs.Map.{map_length}
use Rattle.maps.proofs.given.map_length.Goals as goal

pub labels-requires : goal.labels-requires
labels-requires c = header-inside _ c.requires.fitted

pub returns : goal.returns
unfolding map_length
returns c = (rw c.labels.ensures.0, omega (arith, c.labels.ensures.1))
