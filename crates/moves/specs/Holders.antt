-- Users who hold COMPACCESS.
use Rattle.std.specs.Prelude.{ℕ, Bool, cond, List, [], ◌∷◌}
use Rattle.fields.specs.Scan.{places_where}
use Rattle.header.specs.Layout.{users, user_record}
use Rattle.records.specs.Fields.{privileges, has_compaccess}

-- the user at place u has the bit
abbrev pub is_holder : List ℕ → ℕ → Bool
is_holder im u = has_compaccess (privileges (user_record im u))

-- their places, in order
unfoldable pub holders : List ℕ → List ℕ
holders im = places_where (is_holder im) (users im) 0

-- the place u, if that user is one of them, as code writes them one after the other
abbrev pub holder_at : List ℕ → ℕ → List ℕ
holder_at im u = cond (is_holder im u) (u ∷ []) []
