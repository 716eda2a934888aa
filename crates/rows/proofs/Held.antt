-- The run that a table holds. Of where it stands in the table only the first laws know. Assumes nothing.
use Prim.Native.Nat.{ℕ, ◌+◌, ◌*◌, ◌≤◌, ◌<◌}
use mathlib.Core.Path.{◌≡◌, refl, sym, ap, ◌∙◌}
use mathlib.Core.Bool.{true}
use mathlib.Core.List.{List, flatten}
use native.Mathlib.Nat.{zero-add}
use native.Mathlib.Omega.{arith}
use borrow.Author.Tests.{leb-true, eqb-true}
use lib.ListN.{length}
use Rattle.fields.specs.Bytes.{part}
use Rattle.fields.proofs.Both.{parts}
use Rattle.buffers.specs.Pasting.{pasted}
use Rattle.access.specs.Rights.{Rights}
use Rattle.rows.specs.Run.{IsRun, run_rows}
use Rattle.rows.specs.Table.{table_run, run_start, with_run, rows_of, with_rows, row_readable, readable_rows, table_rule}
use Rattle.rows.proofs.Standing.{AllWide, flat-again, flat-whole, rows-wide}
use Rattle.rows.proofs.Wide.{kept-wide, flatten-length, rows-count}

-- ---- where the run stands
module _ (table : List ℕ) (w : ℕ) where
  -- 12 lets through the tables that hold a run
  pub table-means : table_rule table w ≡ true → IsRun (table_run table w) w
  unfolding table_rule table_run
  table-means e =
      let p = parts _ _ e in
      let q = parts _ _ p.0 in
      record { wide = leb-true _ _ q.0; narrow = leb-true _ _ q.1; multiple = eqb-true _ _ p.1 }

  pub held-means : table_rule table w ≡ true → (run : List ℕ) → run ≡ table_run table w → IsRun run w
  held-means e run held = rw held (table-means e)

  -- bytes of the run are bytes of the table
  pub run_inside : run_start + length (table_run table w) ≤ length table
  unfolding table_run
  run_inside = omega arith

  pub run-part : (at n : ℕ) → at + n ≤ length (table_run table w) → part (table_run table w) at n ≡ part table (run_start + at) n
  unfolding table_run
  run-part at n h = rw zero-add

  -- bytes written over those of the run
  pub run-pasted : (at : ℕ) (text : List ℕ) → at + length text ≤ length (table_run table w)
      → pasted table (run_start + at) text ≡ with_run table w (pasted (table_run table w) at text)
  unfolding table_run with_run
  run-pasted at text h = rw zero-add

  -- a table given its own run is as it was
  run-same : with_run table w (table_run table w) ≡ table
  unfolding table_run with_run
  run-same = refl

  -- a table given a run as long as its own holds that one, and keeps its length
  module _ (run : List ℕ) (long : length run ≡ length (table_run table w)) where
    run-again : table_run (with_run table w run) w ≡ run
    unfolding table_run with_run
    run-again = refl

    run_length : length (with_run table w run) ≡ length table
    unfolding table_run with_run
    run_length = long

-- 12 and the number of rows look at the table's length only
module _ (table other : List ℕ) (w : ℕ) (long : length other ≡ length table) where
  pub rule-by-length : table_rule other w ≡ table_rule table w
  unfolding table_rule
  rule-by-length = rw long

  pub count-by-length : length (rows_of other w) ≡ length (rows_of table w)
  unfolding rows_of table_run
  count-by-length = rows-count other w ∙ (rw long) ∙ sym (rows-count table w)

-- ---- the rows of an accepted table
module _ (table : List ℕ) (w : ℕ) (e : table_rule table w ≡ true) where
  -- a table given its own rows is as it was
  pub rows_whole : with_rows table w (rows_of table w) ≡ table
  unfolding with_rows rows_of
  rows_whole = ap (with_run table w) (flat-whole (table_run table w) w (table-means table w e)) ∙ run-same table w

  -- each is of that width
  pub table-wide : AllWide w (rows_of table w)
  unfolding rows_of
  table-wide = rows-wide (table_run table w) w (table-means table w e)

  pub readable-wide : (im : List ℕ) (rights : Rights) → AllWide w (readable_rows im rights table w)
  unfolding readable_rows
  readable-wide im rights = kept-wide (row_readable im rights) w (rows_of table w) table-wide

  -- a table given as many rows of its width has these, and keeps its length
  module _ (rows : List (List ℕ)) (wide : AllWide w rows) (same : length rows ≡ length (rows_of table w)) where
    as_long : length (flatten rows) ≡ length (table_run table w)
    unfolding rows_of
    as_long =
        flatten-length w rows wide
        ∙ ap (λ (k : ℕ). k * w) same
        ∙ sym (flatten-length w (rows_of table w) table-wide)
        ∙ ap length (flat-whole (table_run table w) w (table-means table w e))

    pub rows-again : rows_of (with_rows table w rows) w ≡ rows
    unfolding with_rows rows_of
    rows-again =
        let low = (table-means table w e).wide in
        let positive : 0 < w = omega arith in
        ap (λ (run : List ℕ). run_rows run w) (run-again table w (flatten rows) as_long) ∙ flat-again w positive rows wide

    pub with-length : length (with_rows table w rows) ≡ length table
    unfolding with_rows
    with-length = run_length table w (flatten rows) as_long
