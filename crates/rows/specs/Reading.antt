-- Reading copies the readable rows whole, in order, to the front of a second buffer and reports how many; later bytes stay.
use Rattle.std.specs.Prelude.{ℕ, cond, leb, length, Ok, Err}
use mathlib.Core.List.{List, flatten}
use Rattle.buffers.specs.Pasting.{at_front}
use Rattle.refusals.specs.declared.Refusal.TheVariants.{Room}
use Rattle.refusals.specs.Answers.{on_checked, Amount}
use Rattle.sessions.specs.Session.{SessionMarks, session_rights}
use Rattle.rows.specs.Table.{readable_rows, table_answer}

-- 13 where the rows are longer than the buffer, which then stays as it was
unfoldable pub handed_out : List (List ℕ) → List ℕ → Amount × List ℕ
handed_out rows buffer =
    let bytes = flatten rows in
    cond (leb (length bytes) (length buffer)) (Ok (length rows), at_front bytes buffer) (Err Room, buffer)

-- the answer of `read`, and the buffer after it: 1, 2, 31 to 35, 19, 12 before all others
unfoldable pub read_rows_of : List ℕ → SessionMarks → List ℕ → ℕ → List ℕ → Amount × List ℕ
read_rows_of im s table width buffer =
    on_checked (table_answer im s table width) (λ r. (Err r, buffer))
    (handed_out (readable_rows im (session_rights im s) table width) buffer)
