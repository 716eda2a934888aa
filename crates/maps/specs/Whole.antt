-- The map of n labels for whoever may read every one of them: each record's bit is set, and the spare bits are zero.
use Rattle.std.specs.Prelude.{ℕ, ◌+◌, ◌-◌, ◌*◌, ◌/◌, min, Bool, List, eqb}
use Rattle.fields.specs.Bytes.{all}
use Rattle.fields.specs.Scan.{list_from}
use Rattle.sets.specs.Sets.{all_below}

-- byte k has a bit for each record that is left for it, of at most eight
unfoldable pub whole_byte : ℕ → ℕ → ℕ
whole_byte n k = all_below (min 8 (n - 8 * k))

unfoldable pub whole_map : ℕ → List ℕ
whole_map n = list_from (whole_byte n) ((n + 7) / 8) 0

-- each byte has all its bits
abbrev pub all_set : List ℕ → Bool
all_set = all (λ x. eqb x 255)
