-- A map's bytes, eight at a time: the bits of 64 label records as one number, and the bytes of a number.
use Rattle.std.specs.Prelude.{ℕ, zero, suc, ◌+◌, ◌*◌, ◌/◌, ◌%◌, List, [], ◌∷◌}
use Rattle.sets.specs.Sets.{collect}
use Rattle.access.specs.Rights.{Rights}
use Rattle.maps.specs.Map.{reads_record}

-- word k holds the bits of the records 64 k to 64 k + 63, the first in its lowest bit; where there is no such record the bit is zero
unfoldable pub map_word : List ℕ → Rights → ℕ → ℕ
map_word im rights k = collect (λ i. reads_record im rights (64 * k + i)) 64

-- the first n bytes of w, lowest first
unfoldable pub bytes_of : ℕ → ℕ → List ℕ
bytes_of zero w = []
bytes_of (suc n) w = w % 256 ∷ bytes_of n (w / 256)
