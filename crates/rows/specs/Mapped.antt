-- Reading with a map, request R-4: the map is judged, and then bits only are looked up. The image says which label record carries a row's tag, and
-- its bit decides. Of rows whose tag is 0 or unknown no bit tells: there the edition and READ or FULL decide, once for the whole read.
use Rattle.std.specs.Prelude.{ℕ, Bool, cond, List, Err}
use Rattle.refusals.specs.Answers.{on_checked, Amount}
use Rattle.image.specs.Lookup.{label_of_tag}
use Rattle.access.specs.Verdicts.{known_tag, unknown_read}
use Rattle.sessions.specs.Session.{SessionMarks, session_rights}
use Rattle.maps.specs.Map.{bit_of}
use Rattle.maps.specs.Calls.{map_answer}
use Rattle.rows.specs.Run.{kept}
use Rattle.rows.specs.Table.{rows_of, row_tag, table_answer}
use Rattle.rows.specs.Reading.{handed_out}

-- ---- by any bytes, and whether rows of unknown tags are handed out; no rights, and so no verdict
-- a row of that tag is handed out
unfoldable pub tag_mapped : List ℕ → List ℕ → Bool → ℕ → Bool
tag_mapped im bits unknownSeen tag = cond (known_tag im tag) (bit_of bits (label_of_tag im tag)) unknownSeen

-- the row is handed out: its tag decides
abbrev pub row_mapped : List ℕ → List ℕ → Bool → List ℕ → Bool
row_mapped im bits unknownSeen row = tag_mapped im bits unknownSeen (row_tag row)

-- the rows of a table that are handed out, in table order
unfoldable pub mapped_rows : List ℕ → List ℕ → Bool → List ℕ → ℕ → List (List ℕ)
mapped_rows im bits unknownSeen table width = kept (row_mapped im bits unknownSeen) (rows_of table width)

-- ---- the answer of `read_mapped`, and the buffer after it: 1, 2, 31 to 35, 19, 12, then 20, then 13
unfoldable pub read_mapped_of : List ℕ → SessionMarks → List ℕ → ℕ → List ℕ → List ℕ → Amount × List ℕ
read_mapped_of im s table width bits buffer =
    let rights = session_rights im s in
    on_checked (table_answer im s table width) (λ r. (Err r, buffer))
    (on_checked (map_answer im rights bits) (λ r. (Err r, buffer))
    (handed_out (mapped_rows im bits (unknown_read im rights) table width) buffer))
