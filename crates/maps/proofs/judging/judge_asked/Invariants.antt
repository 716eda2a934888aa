use Prim.Native.Nat.{ℕ, ◌-◌, ◌*◌, min}
use mathlib.Core.Path.{◌≡◌}
use mathlib.Core.List.{List}
use lib.ListN.{drop}
use Rattle.fields.specs.Names.{same_bytes}
use Rattle.fields.specs.Scan.{list_from}
use Rattle.header.specs.Layout.{labels, Standing}
use Rattle.access.specs.Rights.{Rights, rights_of}
use Rattle.maps.specs.Map.{map_byte, map_of}
use Rattle.maps.proofs.judging.judge_asked.Given as goal

-- what is left to compare from that offset on tells of the whole
abbrev pub Told : List ℕ → Rights → ℕ → List ℕ → ℕ → Type 0
Told im rights count bits at = same_bytes (drop at bits) (list_from (map_byte im rights) (count - at) at) ≡ same_bytes bits (map_of im rights)

abbrev pub invariant-loop-k : goal.invariant-loop-k
invariant-loop-k l =
    Standing l.shape (min (64 * l.k) (labels l.image)) l.here × Told l.image (rights_of l.view) l.count l.bits (min l.count (8 * l.k))
