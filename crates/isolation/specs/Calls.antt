-- A sequence of calls on one table: openings, label changes, reads, mapped reads and updates, all lent the one image. Each step is what the public
-- call of that kind answers.
use Rattle.refusals.specs.Answers.{Amount, Checked}
use Rattle.std.specs.Prelude.{ℕ, ◌*◌, List, [], ◌∷◌, take, Ok, Err}
use Rattle.sessions.specs.Session.{SessionMarks}
use Rattle.sessions.specs.Opening.{Opening, session, refused, open_of}
use Rattle.sessions.specs.Changes.{set_label_of, set_row_label_of}
use Rattle.rows.specs.Reading.{read_rows_of}
use Rattle.rows.specs.Mapped.{read_mapped_of}
use Rattle.rows.specs.Updating.{update_row_of}

-- ---- what is called
-- the session that a call works on: the one returned last, or any other
pub data LentAs : Type 0 where
  last : LentAs
  other : SessionMarks → LentAs

-- a read with its buffer as it was before; a mapped read with a map, any bytes, and its buffer; an update with n and a payload
pub data RowCall : Type 0 where
  reading : List ℕ → RowCall
  reading_mapped : List ℕ → List ℕ → RowCall
  updating : ℕ → List ℕ → RowCall

-- an opening with a user name; a change of either label with a text; a row call with a width
pub data Call : Type 0 where
  opening : List ℕ → Call
  setting_label : LentAs → List ℕ → Call
  setting_row_label : LentAs → List ℕ → Call
  on_rows : LentAs → ℕ → RowCall → Call

-- ---- what a caller sees of it
-- an opening's or a label change's session; a read's count, mapped or not, with the first count times width bytes of its buffer; whether another row
-- call was done; each refusal, which has its number and offset
pub data Answer : Type 0 where
  opened : Opening → Answer
  label_set : SessionMarks → Checked → Answer
  rows_handed : Amount → List ℕ → Answer
  row_done : Checked → Answer

-- what stands between two calls: the table, and the session returned last. Before any is returned it is one that is given
pub record State : Type 0 where
  pub table : List ℕ
  pub session : SessionMarks

-- ---- one call
-- the session that is lent to it
abbrev pub lent_session : State → LentAs → SessionMarks
lent_session state last = state.session
lent_session state (other s) = s

-- a refused opening returns no session
abbrev pub session_after : Opening → SessionMarks → SessionMarks
session_after (session s) before = s
session_after (refused r) before = before

-- the first count times width bytes of the buffer after a read
abbrev pub bytes_read : Amount → ℕ → List ℕ → List ℕ
bytes_read (Ok count) width buffer = take (count * width) buffer
bytes_read (Err r) width buffer = []

-- a row call: the table after it, and its answer
unfoldable pub row_step : List ℕ → SessionMarks → List ℕ → ℕ → RowCall → List ℕ × Answer
row_step im s table width (reading buffer) =
    let result = read_rows_of im s table width buffer in (table, rows_handed result.0 (bytes_read result.0 width result.1))
row_step im s table width (reading_mapped bits buffer) =
    let result = read_mapped_of im s table width bits buffer in (table, rows_handed result.0 (bytes_read result.0 width result.1))
row_step im s table width (updating n payload) =
    let result = update_row_of im s table width n payload in (result.1, row_done result.0)

-- any call: what stands after it, and its answer
unfoldable pub step : List ℕ → State → Call → State × Answer
step im state (opening name) =
    let answer = open_of im name in
    (record { table = state.table; session = session_after answer state.session }, opened answer)
step im state (setting_label lent text) =
    let result = set_label_of im (lent_session state lent) text in
    (record { table = state.table; session = result.0 }, label_set result.0 result.1)
step im state (setting_row_label lent text) =
    let result = set_row_label_of im (lent_session state lent) text in
    (record { table = state.table; session = result.0 }, label_set result.0 result.1)
step im state (on_rows lent width call) =
    let result = row_step im (lent_session state lent) state.table width call in
    (record { table = result.0; session = state.session }, result.1)

-- ---- the whole sequence: what stands after it, and all answers in order
unfoldable pub run : List ℕ → State → List Call → State × List Answer
run im state [] = (state, [])
run im state (call ∷ calls) =
    let first = step im state call in
    let rest = run im first.0 calls in
    (rest.0, first.1 ∷ rest.1)
