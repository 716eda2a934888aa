-- A search over n places of which one is bad: a loop finds that one without a test for the end, and a search over more places ends there. Assumes nothing.
use Prim.Native.Nat.{ℕ, ◌+◌, ◌-◌, ◌*◌, ◌≤◌, ◌<◌}
use mathlib.Core.Path.{◌≡◌, sym, ap}
use mathlib.Core.Bool.{Bool, true, false}
use native.Mathlib.Omega.{arith}
use borrow.Author.Tests.{eqb-false}
use Rattle.fields.specs.Scan.{first_bad, everywhere}
use Rattle.fields.proofs.Everywhere.{everywhere-skip}
use Rattle.fields.proofs.Scan.{bad-from, bad-upto, part-bad}

module _ (rule : ℕ → Bool) (n i : ℕ) (some : everywhere rule n i ≡ false) where
  -- the first bad place is one of them
  pub ends-inside : first_bad rule n i < i + n
  ends-inside = omega (arith, bad-upto rule n i, eqb-false (first_bad rule n i) (i + n) some)

  -- and so is each place that a loop comes to before it
  pub still-inside : (k : ℕ) → first_bad rule (i + n - k) k ≡ first_bad rule n i → k < i + n
  still-inside k inv = omega (arith, bad-from rule (i + n - k) k, ends-inside)

  -- a search over more places ends there
  pub ends-search : (e w : ℕ) → i + n ≤ e → first_bad rule (e - i) i ≡ w → first_bad rule n i ≡ w
  ends-search e w h inv =
      let q : i + n - i ≡ n = omega arith in
      part-bad rule e i (i + n) (first_bad rule n i) w (omega arith) h inv (ap (λ (m : ℕ). first_bad rule m i) (sym q)) ends-inside

-- a search by parts of 16 places from `at` on: part p is passed over
pub past-part : (rule : ℕ → Bool) (e at p w : ℕ) → at + 16 * p + 16 ≤ e → first_bad rule (e - (at + 16 * p)) (at + 16 * p) ≡ w
    → everywhere rule 16 (at + 16 * p) ≡ true → first_bad rule (e - (at + 16 * (p + 1))) (at + 16 * (p + 1)) ≡ w
past-part rule e at p w h inv good =
    let next : at + 16 * p + 16 ≡ at + 16 * (p + 1) = omega arith in
    rw next at (everywhere-skip rule e (at + 16 * p) w 16 h inv good)
