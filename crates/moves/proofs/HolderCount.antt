-- How many hold COMPACCESS, as a chain counts them. Assumes nothing.
use Prim.Native.Nat.{ℕ, zero, suc, ◌+◌}
use mathlib.Core.Path.{◌≡◌, refl, ◌∙◌}
use mathlib.Core.Bool.{Bool, true, false, cond}
use mathlib.Core.List.{List, ◌∷◌}
use native.Mathlib.Numerals.{add-one}
use native.Mathlib.Omega.{arith}
use lib.ListN.{length}
use Rattle.std.specs.List.{count_by, range_with_len}
use Rattle.std.proofs.lemmas.List.Sums.{sum_by-cons}
use Rattle.fields.specs.Scan.{places_where}
use Rattle.header.specs.Layout.{users}
use Rattle.moves.specs.Holders.{is_holder, holders}

-- the places listed are as many as are counted
counted : (test : ℕ → Bool) (n k : ℕ) → count_by test (range_with_len k n) ≡ length (places_where test n k)
unfolding places_where
counted test zero k = refl
counted test (suc n) k =
    sum_by-cons (λ (i : ℕ). cond {A = ℕ} (test i) 1 0) k (range_with_len (k + 1) n) ∙ at (test k) (rw add-one (counted test n (suc k)))
  where
    at : (t : Bool) → count_by test (range_with_len (k + 1) n) ≡ length (places_where test n (suc k))
        → cond t 1 0 + count_by test (range_with_len (k + 1) n) ≡ length (cond t (k ∷ places_where test n (suc k)) (places_where test n (suc k)))
    at true rest = omega (arith, rest)
    at false rest = omega (arith, rest)

pub holder-count : (im : List ℕ) {n : ℕ} → n ≡ count_by (is_holder im) (range_with_len 0 (users im)) → n ≡ length (holders im)
unfolding holders
holder-count im e = e ∙ counted (is_holder im) (users im) 0
