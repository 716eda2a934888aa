-- Demand 3 of the C functions, whose sessions stand in 104 bytes. The calls are those of isolation's Calls.antt, each made of what the C
-- function of its name answers (specs of abi); the claim is that of Claim.antt, in numbers and bytes.
use Rattle.std.specs.Prelude.{ℕ, ◌*◌, ◌^◌, ◌≡◌, Bool, true, cond, ◌&&◌, List, [], ◌∷◌, map, eqb, ltb, length, take, replicate, Ok}
use Rattle.fields.specs.Bytes.{byte_at}
use Rattle.rows.specs.Table.{table_shape}
use Rattle.abi.specs.Sessions.{open_answer, set_label_answer, set_row_label_answer}
use Rattle.abi.specs.Tables.{read_answer, update_answer}
use Rattle.abi.specs.Maps.{read_mapped_answer}
use Rattle.isolation.specs.Claim.{list_at_maximum, own_width, HiddenKept}

-- ---- what is called
-- the session's bytes that are lent to a call: the last ones, or any other. The claim asks nothing of how many they are, nor that they
-- name one user
pub data BytesLent : Type 0 where
  last_bytes : BytesLent
  other_bytes : List ℕ → BytesLent

-- an opening with the bytes for its session as they were before and a user name; a change of either label with a text; a read with a
-- width and its buffer as it was before; a mapped read with a map too; an update with a width, n and a payload
pub data CCall : Type 0 where
  c_open : List ℕ → List ℕ → CCall
  c_set_label : BytesLent → List ℕ → CCall
  c_set_row_label : BytesLent → List ℕ → CCall
  c_read : BytesLent → ℕ → List ℕ → CCall
  c_read_mapped : BytesLent → ℕ → List ℕ → List ℕ → CCall
  c_update : BytesLent → ℕ → ℕ → List ℕ → CCall

-- what stands between two calls: the table, and the last bytes, those that an opening that was done or a change left last. Before any
-- they are bytes that are given
pub record CState : Type 0 where
  pub table : List ℕ
  pub bytes : List ℕ

-- a table and the bytes that count as the last ones before any call
abbrev pub c_started : List ℕ → List ℕ → CState
c_started table bytes = record { table = table; bytes = bytes }

-- ---- one call
-- the bytes that are lent to it
abbrev pub bytes_lent : List ℕ → BytesLent → List ℕ
bytes_lent lately last_bytes = lately
bytes_lent lately (other_bytes bytes) = bytes

-- what is handed out by a call that is done; a refused one gives a number from 2 ^ 63 on
abbrev pub when_done : ℕ → List ℕ → List ℕ → List ℕ
when_done number handed otherwise = cond (ltb number (2 ^ 63)) handed otherwise

-- the first count times width bytes of the buffer after a read; none where it is refused
abbrev pub bytes_handed : ℕ → ℕ → List ℕ → List ℕ
bytes_handed number width buffer = when_done number (take (number * width) buffer) []

-- what stands after it, and what the caller sees: the number, and beside it the session's bytes after an opening that is done or a change,
-- the bytes that a read handed out, or nothing after an update. After a refused opening the last bytes stay
unfoldable pub c_step : List ℕ → CState → CCall → CState × (ℕ × List ℕ)
c_step im state (c_open old name) =
    let result = open_answer im name old in
    (c_started state.table (when_done result.0 result.1 state.bytes), (result.0, when_done result.0 result.1 []))
c_step im state (c_set_label lent text) =
    let result = set_label_answer im (bytes_lent state.bytes lent) text in (c_started state.table result.1, result)
c_step im state (c_set_row_label lent text) =
    let result = set_row_label_answer im (bytes_lent state.bytes lent) text in (c_started state.table result.1, result)
c_step im state (c_read lent width buffer) =
    let result = read_answer im (bytes_lent state.bytes lent) state.table width buffer in
    (state, (result.0, bytes_handed result.0 width result.1))
c_step im state (c_read_mapped lent width bits buffer) =
    let result = read_mapped_answer im (bytes_lent state.bytes lent) state.table width bits buffer in
    (state, (result.0, bytes_handed result.0 width result.1))
c_step im state (c_update lent width n payload) =
    let result = update_answer im (bytes_lent state.bytes lent) state.table width n payload in
    (c_started result.1 state.bytes, (result.0, []))

-- ---- the whole sequence: what stands after it, and all that the caller sees in order
unfoldable pub c_run : List ℕ → CState → List CCall → CState × List (ℕ × List ℕ)
c_run im state [] = (state, [])
c_run im state (call ∷ calls) =
    let first = c_step im state call in
    let rest = c_run im first.0 calls in
    (rest.0, first.1 ∷ rest.1)

-- ---- the calls are that user's
-- byte 0 names that user's place; 19 may still refuse the bytes
abbrev pub own_bytes : ℕ → List ℕ → Bool
own_bytes u bytes = eqb (byte_at bytes 0) u

-- a call that works on a session gets one of that user's; a row call names the row width or one outside 5..512; an opening takes any name
unfoldable pub c_own_call : ℕ → CState → ℕ → CCall → Bool
c_own_call u state width (c_open old name) = true
c_own_call u state width (c_set_label lent text) = own_bytes u (bytes_lent state.bytes lent)
c_own_call u state width (c_set_row_label lent text) = own_bytes u (bytes_lent state.bytes lent)
c_own_call u state width (c_read lent named buffer) = own_bytes u (bytes_lent state.bytes lent) && own_width width named
c_own_call u state width (c_read_mapped lent named bits buffer) = own_bytes u (bytes_lent state.bytes lent) && own_width width named
c_own_call u state width (c_update lent named n payload) = own_bytes u (bytes_lent state.bytes lent) && own_width width named

-- each call of the sequence is that user's, on what stands before it
unfoldable pub c_own_calls : List ℕ → ℕ → CState → ℕ → List CCall → Bool
c_own_calls im u state width [] = true
c_own_calls im u state width (call ∷ calls) = c_own_call u state width call && c_own_calls im u (c_step im state call).0 width calls

-- ---- two sequences are alike: equal, maps too, but for what the openings' bytes and the reads' buffers held before. Bytes lent to a change are
-- equal throughout, as a refused change shows them as they were, also those that are not looked at
abbrev pub c_buffer_zeroed : CCall → CCall
c_buffer_zeroed (c_open old name) = c_open (replicate (length old) 0) name
c_buffer_zeroed (c_set_label lent text) = c_set_label lent text
c_buffer_zeroed (c_set_row_label lent text) = c_set_row_label lent text
c_buffer_zeroed (c_read lent width buffer) = c_read lent width (replicate (length buffer) 0)
c_buffer_zeroed (c_read_mapped lent width bits buffer) = c_read_mapped lent width bits (replicate (length buffer) 0)
c_buffer_zeroed (c_update lent width n payload) = c_update lent width n payload

-- equal with every buffer zeroed
abbrev pub CAlike : List CCall → List CCall → Type 0
CAlike calls1 calls2 = map c_buffer_zeroed calls1 ≡ map c_buffer_zeroed calls2

-- ---- the claim
-- the premises of isolation's Claim.antt, in bytes
pub record CPremises (im : List ℕ) (u : ℕ) (table1 table2 : List ℕ) (width : ℕ) (bytes : List ℕ) (calls1 calls2 : List CCall) : Type 0 where
  -- 12 refuses neither table with the row width
  pub table1-accepted : table_shape table1 width ≡ Ok tt
  pub table2-accepted : table_shape table2 width ≡ Ok tt
  pub lists-equal : list_at_maximum im u table1 width ≡ list_at_maximum im u table2 width
  pub calls-own : c_own_calls im u (c_started table1 bytes) width calls1 ≡ true
  pub calls-alike : CAlike calls1 calls2

-- the table after the sequence
abbrev pub c_table_after : List ℕ → List ℕ → List ℕ → List CCall → List ℕ
c_table_after im table bytes calls = (c_run im (c_started table bytes) calls).0.table

-- equal numbers and bytes, tables that agree again on what the user could ever read, and hidden rows as they were
pub record CClaim (im : List ℕ) (u : ℕ) (table1 table2 : List ℕ) (width : ℕ) (bytes : List ℕ) (calls1 calls2 : List CCall) : Type 0 where
  pub seen-equal : (c_run im (c_started table1 bytes) calls1).1 ≡ (c_run im (c_started table2 bytes) calls2).1
  pub final-lists-equal : list_at_maximum im u (c_table_after im table1 bytes calls1) width ≡ list_at_maximum im u (c_table_after im table2 bytes calls2) width
  pub hidden-kept1 : HiddenKept im u table1 (c_table_after im table1 bytes calls1) width
  pub hidden-kept2 : HiddenKept im u table2 (c_table_after im table2 bytes calls2) width

-- hidden rows stay hidden from who calls the C functions
abbrev pub CHiddenRows : Type 0
CHiddenRows =
    (im : List ℕ) (u : ℕ) (table1 table2 : List ℕ) (width : ℕ) (bytes : List ℕ) (calls1 calls2 : List CCall)
    → CPremises im u table1 table2 width bytes calls1 calls2 → CClaim im u table1 table2 width bytes calls1 calls2
