-- How many groups an image has, against the room for them in a set and in a table. Nothing else here speaks of these numbers.
use Prim.Native.Nat.{ℕ, ◌≤◌}
use mathlib.Core.List.{List}
use native.Mathlib.Omega.{arith}
use Rattle.sets.specs.Groups.{width}
use Rattle.header.specs.Layout.{groups}
use Rattle.header.specs.Limits.{Counted}
use Rattle.header.proofs.Editions.{counted-groups}
use Rattle.hierarchy.specs.Forest.{table_room}

pub groups-fit : (im : List ℕ) → Counted im → groups im ≤ width
groups-fit im c = counted-groups im c

pub groups-table : (im : List ℕ) → Counted im → groups im ≤ table_room
groups-table im c = omega (arith, groups-fit im c)
