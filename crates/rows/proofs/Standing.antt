-- Where rows stand in a run. Assumes nothing.
use Prim.Native.Nat.{ℕ, zero, suc, ◌+◌, ◌*◌, ◌/◌, ◌%◌, ◌≤◌, ◌<◌}
use mathlib.Core.Path.{◌≡◌, refl, ◌∙◌}
use mathlib.Core.List.{List, [], ◌∷◌, ◌++◌, flatten}
use native.Mathlib.Nat.{suc-mul, div-eq_of_lt, div-eq-sub-div, div-add-mod', le-add_right}
use native.Mathlib.Numerals.{add-one}
use native.Mathlib.Omega.{arith}
use lib.ListN.{length, take, drop, length-append, length-drop, take-append-drop}
use lib.Seq.{length-take-le, take_at, drop_at}
use Rattle.rows.specs.Run.{IsRun, first_rows, run_rows}

-- every row is that long
abbrev pub AllWide : ℕ → List (List ℕ) → Type 0
AllWide w [] = Unit {0}
AllWide w (row ∷ rows) = (length row ≡ w) × AllWide w rows

-- ---- one row after the other
module _ (w : ℕ) (positive : 0 < w) where
  pub rows_end : (run : List ℕ) → length run < w → run_rows run w ≡ []
  unfolding run_rows first_rows
  rows_end run h = rw (div-eq_of_lt h)

  pub rows_step : (run : List ℕ) → w ≤ length run → run_rows run w ≡ take w run ∷ run_rows (drop w run) w
  unfolding run_rows first_rows
  rows_step run h = rw (div-eq-sub-div positive h, add-one, length-drop)

  -- rows made a run are its rows
  pub flat-again : (rows : List (List ℕ)) → AllWide w rows → run_rows (flatten rows) w ≡ rows
  unfolding flatten
  flat-again [] wide = rows_end [] positive
  flat-again (row ∷ rows) wide =
      let long : w ≤ length (row ++ flatten rows) = rw (length-append, wide.0) (le-add_right w (length (flatten rows))) in
      rows_step (row ++ flatten rows) long
      ∙ rw (take_at row (flatten rows) w wide.0, drop_at row (flatten rows) w wide.0, flat-again rows wide.1)

-- ---- all rows of a run
first-whole : (w n : ℕ) (run : List ℕ) → length run ≡ n * w → flatten (first_rows run w n) ≡ run
unfolding first_rows flatten
first-whole w zero [] e = refl
first-whole w zero (x ∷ run) e = absurd (omega arith)
first-whole w (suc n) run e =
    let s : length run ≡ n * w + w = e ∙ suc-mul n w in
    let l : length (drop w run) ≡ n * w = length-drop w run ∙ omega arith in
    rw (first-whole w n (drop w run) l) (take-append-drop w run)

first-wide : (w n : ℕ) (run : List ℕ) → length run ≡ n * w → AllWide w (first_rows run w n)
unfolding first_rows
first-wide w zero run e = record {}
first-wide w (suc n) run e =
    let s : length run ≡ n * w + w = e ∙ suc-mul n w in
    let l : length (drop w run) ≡ n * w = length-drop w run ∙ omega arith in
    let h : w ≤ length run = omega arith in
    (length-take-le w run h, first-wide w n (drop w run) l)

module _ (run : List ℕ) (w : ℕ) (whole : IsRun run w) where
  whole_length : length run ≡ length run / w * w
  whole_length =
      let m = whole.multiple in
      let d : length run / w * w + length run % w ≡ length run = div-add-mod' (length run) w in
      omega arith

  -- a run is its rows, one after the other
  pub flat-whole : flatten (run_rows run w) ≡ run
  unfolding run_rows
  flat-whole = first-whole w (length run / w) run whole_length

  -- each of that width
  pub rows-wide : AllWide w (run_rows run w)
  unfolding run_rows
  rows-wide = first-wide w (length run / w) run whole_length
