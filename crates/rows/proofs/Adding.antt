-- What is left to scan of a run, row after row, for any test of a row. Assumes nothing.
use Prim.Native.Nat.{ℕ, zero, suc, zero-le, ◌+◌, ◌-◌, ◌≤◌, ◌<◌}
use mathlib.Core.Path.{◌≡◌, refl, sym, ap, ap₂, ◌∙◌}
use mathlib.Core.Bool.{Bool, true, false, true≢false, cond, ◌&&◌}
use mathlib.Core.List.{List, [], ◌∷◌, ◌++◌, flatten}
use native.Mathlib.Nat.{le_trans, le_of_eq, le-add_right}
use native.Mathlib.Omega.{arith}
use lib.Dec.{eqb}
use lib.ListN.{length, take, drop, length-append}
use lib.Seq.{take_at, drop_at}
use Rattle.rows.specs.Run.{IsRun, run_rows, kept, offset_of}
use Rattle.rows.specs.Scan.{row_bytes, kept_bytes}
use Rattle.rows.proofs.Standing.{flat-whole, rows_end, rows_step}
use Rattle.rows.proofs.Scanning.{Rest, rows_at, row-part}

-- ---- what a scan by chunks of that size takes from the front of what is left: one row
pub record Next (size : ℕ) (rest row later : List ℕ) : Type 0 where
  pub cut : rest ≡ row ++ later
  pub long : length row ≡ size

pub next_row : {size : ℕ} {rest row later : List ℕ} → rest ≡ row ++ later → length row ≡ size → Next size rest row later
next_row cut long = record { cut = cut; long = long }

module _ (w : ℕ) (positive : 0 < w) where
  pub rows_next : (rest row later : List ℕ) → Next w rest row later → run_rows rest w ≡ row ∷ run_rows later w
  rows_next rest row later x =
      let fits : w ≤ length (row ++ later) = rw (length-append, x.long) (le-add_right w (length later)) in
      ap (λ (r : List ℕ). run_rows r w) x.cut
      ∙ rows_step w positive (row ++ later) fits
      ∙ rw (take_at row later w x.long, drop_at row later w x.long)

-- ---- the rows that pass a test
module _ (test : List ℕ → Bool) where
  -- what a row adds
  pub adds-all : (row : List ℕ) → test row ≡ true → row_bytes test row ≡ row
  unfolding row_bytes
  adds-all row e = rw e

  pub adds_none : (row : List ℕ) → test row ≡ false → row_bytes test row ≡ []
  unfolding row_bytes
  adds_none row e = rw e

  kept_step : (row : List ℕ) (rows : List (List ℕ)) → flatten (kept test (row ∷ rows)) ≡ row_bytes test row ++ flatten (kept test rows)
  unfolding row_bytes flatten
  kept_step row rows = at (test row)
    where
      at : (t : Bool) → flatten (cond t (row ∷ kept test rows) (kept test rows)) ≡ cond t row [] ++ flatten (kept test rows)
      at true = refl
      at false = refl

  -- they are no longer than all
  kept-short : (rows : List (List ℕ)) → length (flatten (kept test rows)) ≤ length (flatten rows)
  unfolding flatten
  kept-short [] = zero-le
  kept-short (row ∷ rows) = at (test row) (kept-short rows)
    where
      at : (t : Bool) → length (flatten (kept test rows)) ≤ length (flatten rows)
          → length (flatten (cond t (row ∷ kept test rows) (kept test rows))) ≤ length (row ++ flatten rows)
      at true h = simp length-append (omega arith)
      at false h = simp length-append (omega arith)

  -- a scan is no longer than its run
  pub kept-bytes-short : (run : List ℕ) (w : ℕ) → IsRun run w → length (kept_bytes test run w) ≤ length run
  kept-bytes-short run w whole = le_trans (kept-short (run_rows run w)) (le_of_eq (ap length (flat-whole run w whole)))

  module _ (w : ℕ) (positive : 0 < w) where
    pub bytes_next : (rest row later : List ℕ) → Next w rest row later → kept_bytes test rest w ≡ row_bytes test row ++ kept_bytes test later w
    bytes_next rest row later x =
        ap (λ (rows : List (List ℕ)). flatten (kept test rows)) (rows_next w positive rest row later x)
        ∙ kept_step row (run_rows later w)

    pub bytes_none : (rest : List ℕ) → length rest < w → kept_bytes test rest w ≡ []
    unfolding flatten
    bytes_none rest h = ap (λ (rows : List (List ℕ)). flatten (kept test rows)) (rows_end w positive rest h)

  -- of a run from an offset on: what the row there adds, and then what is after it
  pub part_step : (run : List ℕ) (w : ℕ) (whole : IsRun run w) (at : ℕ) → Rest run w at → at < length run
      → kept_bytes test (drop at run) w ≡ row_bytes test (take (at + w - at) (drop at run)) ++ kept_bytes test (drop (at + w) run) w
  part_step run w whole at r h =
      rw (row-part run w whole at)
      (ap (λ (rows : List (List ℕ)). flatten (kept test rows)) (rows_at run w whole at r h)
      ∙ kept_step (take w (drop at run)) (run_rows (drop (at + w) run) w))

  -- ---- a loop that counts bytes: what was counted and what is left make the whole
  pub record Count (run : List ℕ) (w size n : ℕ) (rest : List ℕ) : Type 0 where
    pub wide : size ≡ w
    pub sum : n + length (kept_bytes test rest w) ≡ length (kept_bytes test run w)

  module _ (run : List ℕ) (w : ℕ) (whole : IsRun run w) where
    module _ (size n : ℕ) (rest : List ℕ) (c : Count run w size n rest) where
      module _ (row later : List ℕ) (x : Next size rest row later) where
        adds : length (kept_bytes test rest w) ≡ length (row_bytes test row) + length (kept_bytes test later w)
        adds =
            let low = whole.wide in
            let next : Next w rest row later = record { cut = x.cut; long = x.long ∙ c.wide } in
            ap length (bytes_next w (omega arith) rest row later next) ∙ length-append (row_bytes test row) (kept_bytes test later w)

        adds-width : test row ≡ true → length (row_bytes test row) ≡ w
        adds-width e = ap length (adds-all row e) ∙ x.long ∙ c.wide

        pub count_room : test row ≡ true → n + w ≤ length run
        count_room e =
            let s = adds in
            let l = adds-width e in
            let t = kept-bytes-short run w whole in
            omega (arith, c.sum)

        pub count_pass : (size' : ℕ) → size' ≡ size → test row ≡ true → Count run w size' (n + w) later
        count_pass size' same e =
            let s = adds in
            let l = adds-width e in
            record { wide = same ∙ c.wide; sum = omega (arith, c.sum) }

        pub count_fail : (size' : ℕ) → size' ≡ size → test row ≡ false → Count run w size' n later
        count_fail size' same e =
            let s = adds in
            let l : length (row_bytes test row) ≡ 0 = ap length (adds_none row e) in
            record { wide = same ∙ c.wide; sum = omega (arith, c.sum) }

      pub count-end : length rest < size → n ≡ length (kept_bytes test run w)
      count-end h =
          let low = whole.wide in
          let s : length (kept_bytes test rest w) ≡ 0 = ap length (bytes_none w (omega arith) rest (omega (arith, c.wide))) in
          omega (arith, c.sum)

-- ---- the n-th row that passes a test
module _ (test : List ℕ → Bool) where
  offset-here : (row : List ℕ) (rows : List (List ℕ)) → test row ≡ true → offset_of test 0 (row ∷ rows) ≡ 0
  unfolding offset_of
  offset-here row rows e = rw e

  offset_step : (n : ℕ) (row : List ℕ) (rows : List (List ℕ)) → (test row && eqb n 0) ≡ false
      → offset_of test n (row ∷ rows) ≡ length row + offset_of test (cond (test row) (n - 1) n) rows
  unfolding offset_of
  offset_step zero row rows e = at (test row) e
    where
      at : (t : Bool) → (t && true) ≡ false
          → cond t 0 (length row + offset_of test 0 rows) ≡ length row + offset_of test (cond t 0 0) rows
      at true h = absurd (true≢false h)
      at false e = refl
  offset_step (suc n) row rows e = at (test row)
    where
      at : (t : Bool) → length row + cond t (offset_of test n rows) (offset_of test (suc n) rows)
          ≡ length row + offset_of test (cond t (suc n - 1) (suc n)) rows
      at true = let p : n ≡ suc n - 1 = omega arith in ap (λ (k : ℕ). length row + offset_of test k rows) p
      at false = refl

  offset-none : (n : ℕ) → offset_of test n [] ≡ 0
  unfolding offset_of
  offset-none n = refl

  -- ---- a loop that looks for it: what is left gives what the whole gives
  pub record Seek (run : List ℕ) (w n size at left : ℕ) (rest : List ℕ) : Type 0 where
    pub wide : size ≡ w
    pub place : at + length rest ≡ length run
    pub sum : at + offset_of test left (run_rows rest w) ≡ offset_of test n (run_rows run w)

  module _ (run : List ℕ) (w : ℕ) (whole : IsRun run w) where
    module _ (n size at left : ℕ) (rest : List ℕ) (s : Seek run w n size at left rest) where
      module _ (row later : List ℕ) (x : Next size rest row later) where
        ahead : run_rows rest w ≡ row ∷ run_rows later w
        ahead =
            let low = whole.wide in
            rows_next w (omega arith) rest row later (record { cut = x.cut; long = x.long ∙ s.wide })

        pub seek-room : at + w ≤ length run
        seek-room = let l = ap length x.cut ∙ length-append row later in omega (arith, x.long, s.wide, s.place)

        pub seek_found : test row ≡ true → left ≡ 0 → at ≡ offset_of test n (run_rows run w)
        seek_found e z =
            let o : offset_of test left (run_rows rest w) ≡ 0 = ap₂ (offset_of test) z ahead ∙ offset-here row (run_rows later w) e in
            omega (arith, s.sum)

        pub seek-turn : (size' next : ℕ) → size' ≡ size → (test row && eqb left 0) ≡ false → next ≡ cond (test row) (left - 1) left
            → Seek run w n size' (at + w) next later
        seek-turn size' next same t g =
            let rows = run_rows later w in
            let o = ap (offset_of test left) ahead ∙ offset_step left row rows t in
            let o' : offset_of test (cond (test row) (left - 1) left) rows ≡ offset_of test next rows =
            ap (λ (k : ℕ). offset_of test k rows) (sym g) in
            let l = ap length x.cut ∙ length-append row later in
            let long : length row ≡ w = x.long ∙ s.wide in
            record { wide = same ∙ s.wide; place = omega (arith, s.place); sum = omega (arith, s.sum) }

      pub seek-end : length rest < size → at ≡ offset_of test n (run_rows run w)
      seek-end h =
          let low = whole.wide in
          let none = rows_end w (omega arith) rest (omega (arith, s.wide)) in
          let o = ap (offset_of test left) none ∙ offset-none left in
          omega (arith, s.sum)
