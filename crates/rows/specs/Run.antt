-- A run of rows: bytes that are whole rows of one width, one after the other. A row is its bytes, the tag too.
use Rattle.std.specs.Prelude.{ℕ, zero, suc, ◌+◌, ◌*◌, ◌/◌, ◌%◌, ◌≤◌, ◌≡◌, Bool, cond, length, take, drop}
use mathlib.Core.List.{List, [], ◌∷◌}

-- bytes that are a run of rows: a width is 5 to 512, and the length is a multiple of it
pub record IsRun (run : List ℕ) (width : ℕ) : Type 0 where
  pub wide : 5 ≤ width
  pub narrow : width ≤ 512
  pub multiple : length run % width ≡ 0

-- ---- where rows stand in a run: these definitions say it, and no other does
-- the first n rows
unfoldable pub first_rows : List ℕ → ℕ → ℕ → List (List ℕ)
first_rows run width zero = []
first_rows run width (suc n) = take width run ∷ first_rows (drop width run) width n

-- all rows, in order; `flatten` makes them a run again
unfoldable pub run_rows : List ℕ → ℕ → List (List ℕ)
run_rows run width = first_rows run width (length run / width)

-- the offset of the row at a place, from 0
abbrev pub row_offset : ℕ → ℕ → ℕ
row_offset width place = place * width

-- ---- rows that pass a test
-- those rows, in order
abbrev pub kept : (List ℕ → Bool) → List (List ℕ) → List (List ℕ)
kept test [] = []
kept test (row ∷ rows) = cond (test row) (row ∷ kept test rows) (kept test rows)

-- the offset of the n-th of them, from 0; the length of all rows where there is none
unfoldable pub offset_of : (List ℕ → Bool) → ℕ → List (List ℕ) → ℕ
offset_of test n [] = 0
offset_of test zero (row ∷ rows) = cond (test row) 0 (length row + offset_of test zero rows)
offset_of test (suc n) (row ∷ rows) = length row + cond (test row) (offset_of test n rows) (offset_of test (suc n) rows)

-- all rows, the n-th of them changed; n counts from 0 among those that pass
abbrev pub changed_nth : (List ℕ → Bool) → (List ℕ → List ℕ) → ℕ → List (List ℕ) → List (List ℕ)
changed_nth test change n [] = []
changed_nth test change zero (row ∷ rows) = cond (test row) (change row ∷ rows) (row ∷ changed_nth test change zero rows)
changed_nth test change (suc n) (row ∷ rows) = row ∷ cond (test row) (changed_nth test change n rows) (changed_nth test change (suc n) rows)
