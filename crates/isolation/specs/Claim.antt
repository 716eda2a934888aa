-- Demand 3, whole: hidden rows stay hidden. Two tables that agree on what a user could ever read give that user equal answers over any
-- sequence of openings, label changes, reads, mapped reads and updates, and agree on it again at the end; every other row keeps its bytes and place.
use Rattle.std.specs.Prelude.{ℕ, ◌<◌, ◌≡◌, Bool, true, false, not, ◌&&◌, ◌||◌, List, [], ◌∷◌, map, eqb, length, replicate, get_or, Ok}
use Rattle.access.specs.Verdicts.{readable_at_maximum}
use Rattle.sessions.specs.Session.{SessionMarks}
use Rattle.rows.specs.Run.{kept}
use Rattle.rows.specs.Table.{rows_of, row_tag, width_rule, table_shape}
use Rattle.isolation.specs.Calls.{RowCall, reading, reading_mapped, updating, Call, opening, setting_label, setting_row_label, on_rows, State, lent_session, step, run}

-- ---- what the user at place u could ever read
abbrev pub ever_readable : List ℕ → ℕ → List ℕ → Bool
ever_readable im u row = readable_at_maximum im u (row_tag row)

-- the list: of whole rows, tags too, in table order, those readable at the maximum read label
unfoldable pub list_at_maximum : List ℕ → ℕ → List ℕ → ℕ → List (List ℕ)
list_at_maximum im u table width = kept (ever_readable im u) (rows_of table width)

-- ---- the calls are that user's
-- a session is a user's if it names that user's place; 19 may still refuse it
abbrev pub own_session : ℕ → SessionMarks → Bool
own_session u s = eqb s.user u

-- every row call names the row width or one outside 5..512
abbrev pub own_width : ℕ → ℕ → Bool
own_width width named = eqb named width || not (width_rule named)

-- a call that works on a session gets one of that user's; an opening takes any name
unfoldable pub own_call : ℕ → State → ℕ → Call → Bool
own_call u state width (opening name) = true
own_call u state width (setting_label lent text) = own_session u (lent_session state lent)
own_call u state width (setting_row_label lent text) = own_session u (lent_session state lent)
own_call u state width (on_rows lent named call) = own_session u (lent_session state lent) && own_width width named

-- each call of the sequence is that user's, on what stands before it
unfoldable pub own_calls : List ℕ → ℕ → State → ℕ → List Call → Bool
own_calls im u state width [] = true
own_calls im u state width (call ∷ calls) = own_call u state width call && own_calls im u (step im state call).0 width calls

-- ---- two sequences are alike: equal, maps too, but for what the reads' buffers held before
abbrev pub row_buffer_zeroed : RowCall → RowCall
row_buffer_zeroed (reading buffer) = reading (replicate (length buffer) 0)
row_buffer_zeroed (reading_mapped bits buffer) = reading_mapped bits (replicate (length buffer) 0)
row_buffer_zeroed (updating n payload) = updating n payload

-- the call with a read's buffer zeroed
abbrev pub buffer_zeroed : Call → Call
buffer_zeroed (opening name) = opening name
buffer_zeroed (setting_label lent text) = setting_label lent text
buffer_zeroed (setting_row_label lent text) = setting_row_label lent text
buffer_zeroed (on_rows lent width call) = on_rows lent width (row_buffer_zeroed call)

abbrev pub Alike : List Call → List Call → Type 0
Alike calls1 calls2 = map buffer_zeroed calls1 ≡ map buffer_zeroed calls2

-- ---- the claim
-- a table and the session that counts as the last one before any is returned, the same in both runs
abbrev pub started : List ℕ → SessionMarks → State
started table s = record { table = table; session = s }

-- Demand 3 speaks of a well-formed image and of a user with neither READ nor FULL. The claim needs neither: a bad image refuses every
-- call alike, and the list is of the rows that the user could ever read, whatever the privileges. With READ or FULL that is every row in edition
-- 1, and in edition 2 every row of a known tag. A session of a place without user is 19
pub record Premises (im : List ℕ) (u : ℕ) (table1 table2 : List ℕ) (width : ℕ) (start : SessionMarks) (calls1 calls2 : List Call) : Type 0 where
  -- 12 refuses neither table with the row width
  pub table1-accepted : table_shape table1 width ≡ Ok tt
  pub table2-accepted : table_shape table2 width ≡ Ok tt
  pub lists-equal : list_at_maximum im u table1 width ≡ list_at_maximum im u table2 width
  pub calls-own : own_calls im u (started table1 start) width calls1 ≡ true
  pub calls-alike : Alike calls1 calls2

-- the table after the sequence
abbrev pub table_after : List ℕ → List ℕ → SessionMarks → List Call → List ℕ
table_after im table start calls = (run im (started table start) calls).0.table

-- every row that was outside the list keeps its bytes and its place, counted from 0 among all rows; the table keeps its length
pub record HiddenKept (im : List ℕ) (u : ℕ) (before after : List ℕ) (width : ℕ) : Type 0 where
  pub same_length : length after ≡ length before
  pub same_rows : (k : ℕ) → k < length (rows_of before width) → ever_readable im u (get_or (rows_of before width) k []) ≡ false
      → get_or (rows_of after width) k [] ≡ get_or (rows_of before width) k []

pub record Claim (im : List ℕ) (u : ℕ) (table1 table2 : List ℕ) (width : ℕ) (start : SessionMarks) (calls1 calls2 : List Call) : Type 0 where
  pub answers-equal : (run im (started table1 start) calls1).1 ≡ (run im (started table2 start) calls2).1
  pub final-lists-equal : list_at_maximum im u (table_after im table1 start calls1) width ≡ list_at_maximum im u (table_after im table2 start calls2) width
  pub hidden-kept1 : HiddenKept im u table1 (table_after im table1 start calls1) width
  pub hidden-kept2 : HiddenKept im u table2 (table_after im table2 start calls2) width

-- hidden rows stay hidden
abbrev pub HiddenRows : Type 0
HiddenRows =
    (im : List ℕ) (u : ℕ) (table1 table2 : List ℕ) (width : ℕ) (start : SessionMarks) (calls1 calls2 : List Call)
    → Premises im u table1 table2 width start calls1 calls2 → Claim im u table1 table2 width start calls1 calls2
