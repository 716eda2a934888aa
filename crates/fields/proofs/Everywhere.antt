-- A rule tested at each of several places in a row, by a loop without a branch, and a search for the first bad place that goes on behind them. Assumes nothing.
use Prim.Native.Nat.{ℕ, ◌+◌, ◌-◌, ◌≤◌, ◌<◌}
use mathlib.Core.Path.{◌≡◌, refl, sym, ap, ◌∙◌}
use mathlib.Core.Bool.{Bool, true, false, ◌&&◌, true≢false}
use mathlib.Core.Logic.{⊎_elim}
use native.Mathlib.Nat.{le_refl, eq-or-lt_of_le}
use native.Mathlib.Omega.{arith}
use borrow.Author.Tests.{eq-eqb, eqb-true, eqb-false, ltb-true, ltb-false}
use lib.Dec.{ltb}
use Rattle.fields.specs.Scan.{first_bad, everywhere}
use Rattle.fields.proofs.Scan.{bad-from, bad-upto, bad-at, everywhere-at, all-good, part-good}

module _ (rule : ℕ → Bool) where
  pub everywhere-holds : (n k : ℕ) → ((i : ℕ) → k ≤ i → i < k + n → rule i ≡ true) → everywhere rule n k ≡ true
  everywhere-holds n k good = eq-eqb (first_bad rule n k) (k + n) (all-good rule n k good)

  pub everywhere-none : (k : ℕ) → everywhere rule 0 k ≡ true
  everywhere-none k = everywhere-holds 0 k (λ i low high. absurd (omega arith))

  pub everywhere-fails : (n k i : ℕ) → k ≤ i → i < k + n → rule i ≡ false → everywhere rule n k ≡ false
  everywhere-fails n k i low high bad = at (everywhere rule n k) refl
    where
      at : (t : Bool) → everywhere rule n k ≡ t → t ≡ false
      at true e = absurd (true≢false (sym (everywhere-at rule n k i e low high) ∙ bad))
      at false e = refl

  -- a turn of the loop: one place more
  pub everywhere-more : (n k : ℕ) → (everywhere rule n k && rule (k + n)) ≡ everywhere rule (n + 1) k
  everywhere-more n k = at (everywhere rule n k) refl (rule (k + n)) refl
    where
      at : (s : Bool) → everywhere rule n k ≡ s → (t : Bool) → rule (k + n) ≡ t → (s && t) ≡ everywhere rule (n + 1) k
      at true e true d =
          sym (everywhere-holds (n + 1) k
          (λ i low high.
          let upto : i ≤ k + n = omega arith in
          ⊎_elim (λ q. ap rule q ∙ d) (λ l. everywhere-at rule n k i e low l) (eq-or-lt_of_le upto)))
      at true e false d = sym (everywhere-fails (n + 1) k (k + n) (omega arith) (omega arith) d)
      at false e t d =
          let less : first_bad rule n k < k + n = omega (arith, bad-upto rule n k, eqb-false (first_bad rule n k) (k + n) e) in
          sym (everywhere-fails (n + 1) k (first_bad rule n k) (bad-from rule n k) (omega arith) (bad-at rule n k less))

  -- n good places are passed over
  pub everywhere-skip : (e i w n : ℕ) → i + n ≤ e → first_bad rule (e - i) i ≡ w → everywhere rule n i ≡ true
      → first_bad rule (e - (i + n)) (i + n) ≡ w
  everywhere-skip e i w n h inv good =
      let q : i + n - i ≡ n = omega arith in
      part-good rule e i (i + n) (i + n) w (omega arith) h inv (sym (ap (λ (m : ℕ). first_bad rule m i) q ∙ eqb-true _ _ good)) (le_refl (i + n))

  -- ---- the same rule at places among those, or at more of them
  pub everywhere-within : (m k n i : ℕ) → k ≤ i → i + n ≤ k + m → everywhere rule m k ≡ true → everywhere rule n i ≡ true
  everywhere-within m k n i low high e = everywhere-holds n i (λ j l h. everywhere-at rule m k j e (omega arith) (omega arith))

  pub everywhere-outside : (m k n i : ℕ) → k ≤ i → i + n ≤ k + m → everywhere rule n i ≡ false → everywhere rule m k ≡ false
  everywhere-outside m k n i low high e = at (everywhere rule m k) refl
    where
      at : (t : Bool) → everywhere rule m k ≡ t → t ≡ false
      at true d = absurd (true≢false (sym (everywhere-within m k n i low high d) ∙ e))
      at false d = refl

  -- behind m good places the other n decide
  pub everywhere-join : (m n k : ℕ) → everywhere rule m k ≡ true → everywhere rule n (k + m) ≡ everywhere rule (m + n) k
  everywhere-join m n k good = at (everywhere rule n (k + m)) refl
    where
      at : (t : Bool) → everywhere rule n (k + m) ≡ t → t ≡ everywhere rule (m + n) k
      at true e = sym (everywhere-holds (m + n) k (λ i low high. here i low high (ltb i (k + m)) refl))
        where
          here : (i : ℕ) → k ≤ i → i < k + (m + n) → (s : Bool) → ltb i (k + m) ≡ s → rule i ≡ true
          here i low high true l = everywhere-at rule m k i good low (ltb-true i (k + m) l)
          here i low high false l = everywhere-at rule n (k + m) i e (ltb-false i (k + m) l) (omega arith)
      at false e = sym (everywhere-outside (m + n) k n (k + m) (omega arith) (omega arith) e)
