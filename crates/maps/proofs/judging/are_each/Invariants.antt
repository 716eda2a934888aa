use Prim.Native.Nat.{◌-◌, ◌≤◌}
use mathlib.Core.Path.{◌≡◌}
use lib.ListN.{drop}
use Rattle.fields.specs.Names.{same_bytes}
use Rattle.maps.specs.Words.{bytes_of}
use Rattle.maps.proofs.judging.are_each.Given as goal

abbrev pub invariant-loop-i : goal.invariant-loop-i
invariant-loop-i l = (l.i ≤ l.n) × (same_bytes (drop l.i l.bits) (bytes_of (l.n - l.i) l.rest) ≡ same_bytes l.bits (bytes_of l.n l.w))
