-- Updating takes n, counted from 0 among rows readable now, and a payload of width minus 4 bytes; it replaces that row's payload and
-- nothing else.
use Rattle.std.specs.Prelude.{ℕ, List, [], eqb, ltb, length, get_or, Ok, Err}
use Rattle.refusals.specs.declared.Refusal.TheVariants.{PayloadLength, NoRow, RowNotWritable}
use Rattle.refusals.specs.Answers.{on_checked, or_refuse, Checked}
use Rattle.access.specs.Rights.{Rights}
use Rattle.sessions.specs.Session.{SessionMarks, session_rights}
use Rattle.rows.specs.Table.{table_changed, payload_length, with_payload, row_readable, row_writable, readable_rows, table_answer}

-- ---- with those rights, once image, session and table are accepted
-- of the readable rows: 16 unless the payload has width minus 4 bytes; 14 unless there is a row n; 15 unless it is writable
unfoldable pub nth_row_answer : List ℕ → Rights → List (List ℕ) → ℕ → ℕ → List ℕ → Checked
nth_row_answer im rights readable width n payload =
    or_refuse (eqb (length payload) (payload_length width)) PayloadLength
    (or_refuse (ltb n (length readable)) NoRow
    (or_refuse (row_writable im rights (get_or readable n [])) RowNotWritable (Ok tt)))

-- the table with that row's payload replaced
unfoldable pub table_updated : List ℕ → Rights → List ℕ → ℕ → ℕ → List ℕ → List ℕ
table_updated im rights table width n payload = table_changed (row_readable im rights) (with_payload payload) table width n

-- the answer, and the table after it: a refusal leaves it as it was
unfoldable pub update_with : List ℕ → Rights → List ℕ → ℕ → ℕ → List ℕ → Checked × List ℕ
update_with im rights table width n payload =
    let answer = nth_row_answer im rights (readable_rows im rights table width) width n payload in
    (answer, on_checked answer (λ r. table) (table_updated im rights table width n payload))

-- ---- the answer of `update`, and the table after it: 1, 2, 31 to 35, 19, 12 before all others
unfoldable pub update_row_of : List ℕ → SessionMarks → List ℕ → ℕ → ℕ → List ℕ → Checked × List ℕ
update_row_of im s table width n payload =
    on_checked (table_answer im s table width) (λ r. (Err r, table)) (update_with im (session_rights im s) table width n payload)
