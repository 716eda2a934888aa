use Prim.Native.Nat.{◌+◌, ◌-◌, ◌≤◌, ℕ, ◌*◌}
use mathlib.Core.Path.{◌≡◌}
use Rattle.sets.specs.Sets.{collect}
use Rattle.header.specs.Layout.{Standing}
use Rattle.access.specs.Rights.{rights_of, Rights}
use mathlib.Core.Bool.{Bool}
use mathlib.Core.List.{List}
use Rattle.maps.specs.Map.{reads_record}
use Rattle.maps.proofs.words.map_word.Given as goal

-- what bit i of word k tells
abbrev pub told : List ℕ → Rights → ℕ → ℕ → Bool
told im rights k i = reads_record im rights (64 * k + i)

abbrev pub invariant-loop-i : goal.invariant-loop-i
invariant-loop-i l =
    (l.i ≤ l.count) × (Standing l.shape (l.first + l.i) l.here × (l.bits ≡ collect (told l.image (rights_of l.view) l.k) l.i))

abbrev pub decreases-loop-i : goal.decreases-loop-i
decreases-loop-i l = l.count - l.i
