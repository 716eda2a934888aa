use Prim.Native.Nat.{ℕ, ◌-◌, ◌*◌, min}
use mathlib.Core.List.{List}
use Rattle.fields.specs.Scan.{list_from}
use Rattle.header.specs.Layout.{labels, Standing}
use Rattle.buffers.proofs.Left.{Left}
use Rattle.access.specs.Rights.{Rights, rights_of}
use Rattle.maps.specs.Map.{map_byte, map_of}
use Rattle.maps.proofs.making.put_asked.Given as goal

-- the bytes of the map from that offset on are left to write
abbrev pub Unwritten : List ℕ → Rights → ℕ → List ℕ → List ℕ → ℕ → Type 0
Unwritten im rights count b₀ b at = Left b₀ 0 (map_of im rights) b at (list_from (map_byte im rights) (count - at) at)

abbrev pub invariant-loop-k : goal.invariant-loop-k
invariant-loop-k l =
    Standing l.shape (min (64 * l.k) (labels l.image)) l.here
    × Unwritten l.image (rights_of l.view) l.count l.initial.buffer l.buffer (min l.count (8 * l.k))
