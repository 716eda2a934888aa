-- A table: lent bytes that hold a run of rows of one width, 5 to 512; a row's tag is its first 4 bytes.
use Rattle.std.specs.Prelude.{ℕ, ◌+◌, ◌-◌, ◌%◌, Bool, ◌&&◌, eqb, length, take, drop, Ok, Err}
use mathlib.Core.List.{List, ◌++◌, flatten}
use Rattle.fields.specs.Bytes.{number4}
use Rattle.refusals.specs.declared.Refusal.TheVariants.{TableShape}
use Rattle.refusals.specs.Answers.{on_checked, or_refuse, Checked}
use Rattle.access.specs.Rights.{Rights, between}
use Rattle.access.specs.Verdicts.{may_read, may_write}
use Rattle.sessions.specs.Session.{SessionMarks, lent_answer}
use Rattle.rows.specs.Run.{run_rows, row_offset, kept, changed_nth}

-- ---- where a table holds its run: these definitions say it, and no other does
-- the run is the whole table
unfoldable pub table_run : List ℕ → ℕ → List ℕ
table_run table width = table

-- its offset in the table
abbrev pub run_start : ℕ
run_start = 0

-- the table with another run, as long, in place of its own
unfoldable pub with_run : List ℕ → ℕ → List ℕ → List ℕ
with_run table width run = run

-- ---- the rows of a table, in table order
unfoldable pub rows_of : List ℕ → ℕ → List (List ℕ)
rows_of table width = run_rows (table_run table width) width

-- the table with those rows in place of its own
unfoldable pub with_rows : List ℕ → ℕ → List (List ℕ) → List ℕ
with_rows table width rows = with_run table width (flatten rows)

-- the table with the n-th of the rows that pass the test changed
unfoldable pub table_changed : (List ℕ → Bool) → (List ℕ → List ℕ) → List ℕ → ℕ → ℕ → List ℕ
table_changed test change table width n = with_rows table width (changed_nth test change n (rows_of table width))

-- ---- a row
-- the tag is the first 4 bytes
abbrev pub row_tag : List ℕ → ℕ
row_tag row = number4 row 0

-- the payload is the rest
abbrev pub row_payload : List ℕ → List ℕ
row_payload row = drop 4 row

abbrev pub payload_length : ℕ → ℕ
payload_length width = width - 4

-- the offset in the table of the payload of the row at a place, from 0, among all rows
abbrev pub payload_offset : ℕ → ℕ → ℕ
payload_offset width place = run_start + row_offset width place + 4

-- the row with another payload and nothing else replaced
abbrev pub with_payload : List ℕ → List ℕ → List ℕ
with_payload payload row = take 4 row ++ payload

-- the row's tag decides whether it is readable or writable with those rights
abbrev pub row_readable : List ℕ → Rights → List ℕ → Bool
row_readable im rights row = may_read im rights (row_tag row)

abbrev pub row_writable : List ℕ → Rights → List ℕ → Bool
row_writable im rights row = may_write im rights (row_tag row)

-- the rows that are readable with those rights, in table order
unfoldable pub readable_rows : List ℕ → Rights → List ℕ → ℕ → List (List ℕ)
readable_rows im rights table width = kept (row_readable im rights) (rows_of table width)

-- ---- 12
-- a width is 5 to 512
abbrev pub width_rule : ℕ → Bool
width_rule width = between 5 512 width

-- and the table's length is a multiple of it
unfoldable pub table_rule : List ℕ → ℕ → Bool
table_rule table width = width_rule width && eqb (length table % width) 0

abbrev pub table_shape : List ℕ → ℕ → Checked
table_shape table width = or_refuse (table_rule table width) TableShape (Ok tt)

-- what every row call asks first: 1, 2, 31 to 35, 19, then 12
unfoldable pub table_answer : List ℕ → SessionMarks → List ℕ → ℕ → Checked
table_answer im s table width = on_checked (lent_answer im s) Err (table_shape table width)
