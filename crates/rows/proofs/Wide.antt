-- Rows of one width. Assumes nothing.
use Prim.Native.Nat.{ℕ, zero, suc, ◌*◌, ◌/◌}
use mathlib.Core.Path.{◌≡◌, refl, sym, ap, ◌∙◌}
use mathlib.Core.Bool.{Bool, true, false}
use mathlib.Core.List.{List, [], ◌∷◌, ◌++◌, flatten, append_assoc}
use native.Mathlib.Nat.{zero-mul, suc-mul}
use native.Mathlib.Omega.{arith}
use lib.ListN.{length, drop, length-append}
use Rattle.rows.specs.Run.{first_rows, run_rows, kept}
use Rattle.rows.proofs.Standing.{AllWide}

-- the rows that are kept are as wide
pub kept-wide : (test : List ℕ → Bool) (w : ℕ) (rows : List (List ℕ)) → AllWide w rows → AllWide w (kept test rows)
kept-wide test w [] a = a
kept-wide test w (row ∷ rows) a = at (test row) refl (kept-wide test w rows a.1)
  where
    at : (t : Bool) → test row ≡ t → AllWide w (kept test rows) → AllWide w (kept test (row ∷ rows))
    at true e later = simp e (a.0, later)
    at false e later = simp e later

-- the bytes of n rows of one width
pub flatten-length : (w : ℕ) (rows : List (List ℕ)) → AllWide w rows → length (flatten rows) ≡ length rows * w
unfolding flatten
flatten-length w [] a = sym (zero-mul w)
flatten-length w (row ∷ rows) a =
    let later : length (flatten rows) ≡ length rows * w = flatten-length w rows a.1 in
    let here : length row ≡ w = a.0 in
    length-append row (flatten rows) ∙ omega (arith, suc-mul (length rows) w)

pub flatten-append : (a b : List (List ℕ)) → flatten (a ++ b) ≡ flatten a ++ flatten b
unfolding flatten
flatten-append [] b = refl
flatten-append (row ∷ a) b = ap (λ (l : List ℕ). row ++ l) (flatten-append a b) ∙ sym (append_assoc row (flatten a) (flatten b))

-- a row in the middle
pub wide-middle : (w : ℕ) (a : List (List ℕ)) (row : List ℕ) (b : List (List ℕ)) → AllWide w (a ++ row ∷ b) → length row ≡ w
wide-middle w [] row b wide = wide.0
wide-middle w (x ∷ a) row b wide = wide-middle w a row b wide.1

first_count : (run : List ℕ) (w n : ℕ) → length (first_rows run w n) ≡ n
unfolding first_rows
first_count run w zero = refl
first_count run w (suc n) = ap suc (first_count (drop w run) w n)

-- how many rows a run has
pub rows-count : (run : List ℕ) (w : ℕ) → length (run_rows run w) ≡ length run / w
unfolding run_rows
rows-count run w = first_count run w (length run / w)
