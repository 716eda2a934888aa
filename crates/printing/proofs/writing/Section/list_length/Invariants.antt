use Prim.Native.Nat.{◌+◌, ◌-◌, ◌*◌, ◌≤◌}
use mathlib.Core.Path.{◌≡◌}
use lib.ListN.{length}
use Rattle.sets.specs.Groups.{places_of}
use Rattle.printing.specs.Print.{listed}
use Rattle.printing.proofs.writing.Section.list_length.Given as goal

abbrev pub invariant-loop-k : goal.invariant-loop-k
invariant-loop-k l =
    let s = l.self in
    (l.n ≤ 31 * l.k)
    × (l.n + length (listed s.image.now s.class (places_of s.set) (s.count - l.k) l.k) ≡ length (listed s.image.now s.class (places_of s.set) s.count 0))
