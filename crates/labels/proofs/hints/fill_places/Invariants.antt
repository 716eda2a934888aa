use Prim.Native.Nat.{◌+◌, ◌≤◌}
use mathlib.Core.Path.{◌≡◌}
use lib.ListN.{length}
use Rattle.header.specs.Layout.{Standing}
use Rattle.labels.specs.Parse.{class_count}
use Rattle.labels.specs.Hints.{hints_room}
use Rattle.labels.proofs.hints.fill_places.Given as goal

abbrev pub invariant-loop-p : goal.invariant-loop-p
invariant-loop-p l =
    (l.p ≤ class_count l.image l.class) × (Standing l.shape (l.first + l.p) l.here × (length l.hints ≡ hints_room))
