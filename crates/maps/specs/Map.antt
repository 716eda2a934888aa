-- The map for an image and session, request R-4: one bit for each label record, bit p mod 8 of byte p div 8, set exactly if the session may read
-- that label; as few bytes as hold them, spare bits zero. Of the session it takes the user and the session label: the row label counts for 19 only.
use Rattle.std.specs.Prelude.{ℕ, ◌+◌, ◌*◌, ◌/◌, ◌%◌, Bool, ◌&&◌, List, ltb}
use Rattle.fields.specs.Bytes.{byte_at}
use Rattle.fields.specs.Scan.{list_from}
use Rattle.fields.specs.Names.{same_bytes}
use Rattle.sets.specs.Sets.{has, collect}
use Rattle.header.specs.Layout.{labels}
use Rattle.labels.specs.Label.{label_at}
use Rattle.access.specs.Rights.{Rights}
use Rattle.access.specs.Verdicts.{reads_label}

-- ---- bits
-- bit p of a map: bit p mod 8 of byte p div 8
unfoldable pub bit_of : List ℕ → ℕ → Bool
bit_of bits p = has (byte_at bits (p / 8)) (p % 8)

-- ---- the map for an image and what the session gives its user
-- there is a p-th label record, and its label may be read
unfoldable pub reads_record : List ℕ → Rights → ℕ → Bool
reads_record im rights p = ltb p (labels im) && reads_label rights (label_at im p)

-- as few bytes as hold a bit for each label record
unfoldable pub map_length : List ℕ → ℕ
map_length im = (labels im + 7) / 8

-- byte k holds the bits of the records 8 k to 8 k + 7, the first in its lowest bit; where there is no such record the bit is spare, and zero
unfoldable pub map_byte : List ℕ → Rights → ℕ → ℕ
map_byte im rights k = collect (λ i. reads_record im rights (8 * k + i)) 8

unfoldable pub map_of : List ℕ → Rights → List ℕ
map_of im rights = list_from (map_byte im rights) (map_length im) 0

-- ---- lent bytes are that map
unfoldable pub map_rule : List ℕ → Rights → List ℕ → Bool
map_rule im rights bits = same_bytes bits (map_of im rights)
