-- Laws of `first_bad`: what it means for places, and what a loop that runs it needs. Assumes nothing.
use Prim.Native.Nat.{ℕ, zero, suc, ◌+◌, ◌-◌, ◌≤◌, ◌<◌}
use mathlib.Core.Path.{◌≡◌, refl, sym, ap, ◌∙◌, subst}
use mathlib.Core.Bool.{Bool, true, false, cond, ◌&&◌}
use mathlib.Core.List.{[], ◌∷◌}
use mathlib.Core.Logic.{⊎_elim}
use native.Mathlib.Nat.{add-zero, zero-add, add-suc, suc-add, le_refl, eq-or-lt_of_le}
use native.Mathlib.Numerals.{add-one}
use native.Mathlib.Omega.{arith}
use borrow.Author.Tests.{eqb-true}
use lib.ListN.{length, get_or}
use Rattle.fields.specs.Scan.{first_bad, everywhere, list_from}
use Rattle.fields.proofs.Both.{both, no-right, below_or}

module _ (rule : ℕ → Bool) where
  good-step : (n k : ℕ) → rule k ≡ true → first_bad rule (suc n) k ≡ first_bad rule n (suc k)
  unfolding first_bad
  good-step n k e = rw e

  bad-here : (n k : ℕ) → rule k ≡ false → first_bad rule (suc n) k ≡ k
  unfolding first_bad
  bad-here n k e = rw e

  -- ---- what it means for places
  pub bad-from : (n k : ℕ) → k ≤ first_bad rule n k
  unfolding first_bad
  bad-from zero k = le_refl k
  bad-from (suc n) k = at (rule k) (bad-from n (suc k))
    where
      at : (t : Bool) → suc k ≤ first_bad rule n (suc k) → k ≤ cond t (first_bad rule n (suc k)) k
      at true h = omega arith
      at false h = le_refl k

  pub bad-upto : (n k : ℕ) → first_bad rule n k ≤ k + n
  unfolding first_bad
  bad-upto zero k = omega arith
  bad-upto (suc n) k = at (rule k) (bad-upto n (suc k))
    where
      at : (t : Bool) → first_bad rule n (suc k) ≤ suc k + n → cond t (first_bad rule n (suc k)) k ≤ k + suc n
      at true h = omega arith
      at false h = omega arith

  -- the rule holds at every place before the first bad one
  pub good-before : (n k i : ℕ) → k ≤ i → i < first_bad rule n k → rule i ≡ true
  unfolding first_bad
  good-before zero k i h l = absurd (omega arith)
  good-before (suc n) k i h l = at (rule k) refl l (good-before n (suc k) i)
    where
      at : (t : Bool) → rule k ≡ t → i < cond t (first_bad rule n (suc k)) k
          → (suc k ≤ i → i < first_bad rule n (suc k) → rule i ≡ true) → rule i ≡ true
      at true e m later = ⊎_elim (λ q. ap rule (sym q) ∙ e) (λ lt. later lt m) (eq-or-lt_of_le h)
      at false e m later = absurd (omega arith)

  -- and fails there
  pub bad-at : (n k : ℕ) → first_bad rule n k < k + n → rule (first_bad rule n k) ≡ false
  unfolding first_bad
  bad-at zero k l = absurd (omega arith)
  bad-at (suc n) k l = at (rule k) refl l (bad-at n (suc k))
    where
      at : (t : Bool) → rule k ≡ t → cond t (first_bad rule n (suc k)) k < k + suc n
          → (first_bad rule n (suc k) < suc k + n → rule (first_bad rule n (suc k)) ≡ false)
          → rule (cond t (first_bad rule n (suc k)) k) ≡ false
      at true e m later = later (omega arith)
      at false e m later = e

  -- it is the one place that is bad with none before it
  pub bad-is : (n k i : ℕ) → k ≤ i → i < k + n → ((j : ℕ) → k ≤ j → j < i → rule j ≡ true) → rule i ≡ false → first_bad rule n k ≡ i
  unfolding first_bad
  bad-is zero k i low high good bad = absurd (omega arith)
  bad-is (suc n) k i low high good bad =
      ⊎_elim (λ e. bad-here n k (ap rule e ∙ bad) ∙ e)
      (λ l. good-step n k (good k (le_refl k) l) ∙ bad-is n (suc k) i l (omega arith) (λ j a b. good j (omega arith) b) bad)
      (eq-or-lt_of_le low)

  pub everywhere-at : (n k i : ℕ) → everywhere rule n k ≡ true → k ≤ i → i < k + n → rule i ≡ true
  everywhere-at n k i e h l = good-before n k i h (subst (λ (w : ℕ). i < w) (sym (eqb-true _ _ e)) l)

  -- a rule that holds at each of the places has no first bad one
  pub all-good : (n k : ℕ) → ((i : ℕ) → k ≤ i → i < k + n → rule i ≡ true) → first_bad rule n k ≡ k + n
  unfolding first_bad
  all-good zero k h = sym (add-zero k)
  all-good (suc n) k h =
      rw (h k (le_refl k) (omega arith)) (all-good n (suc k) (λ i a b. h i (omega arith) (omega arith)) ∙ omega arith)

  -- ---- a loop over i from k up to e, with the invariant that what is left gives what the whole gives
  module _ (e i w : ℕ) where
    left_one : i < e → e - i ≡ suc (e - (i + 1))
    left_one l = omega arith

    pub loop-bad : i < e → first_bad rule (e - i) i ≡ w → rule i ≡ false → i ≡ w
    loop-bad l inv f = sym (bad-here (e - (i + 1)) i f) ∙ ap (λ (n : ℕ). first_bad rule n i) (sym (left_one l)) ∙ inv

    pub loop-good : i < e → first_bad rule (e - i) i ≡ w → rule i ≡ true → first_bad rule (e - (i + 1)) (i + 1) ≡ w
    loop-good l inv t =
        ap (λ (j : ℕ). first_bad rule (e - (i + 1)) j) (add-one i) ∙ sym (good-step (e - (i + 1)) i t)
        ∙ ap (λ (n : ℕ). first_bad rule n i) (sym (left_one l)) ∙ inv

    pub loop-end : e ≤ i → first_bad rule (e - i) i ≡ w → i ≡ w
    unfolding first_bad
    loop-end l inv = let z : e - i ≡ 0 = omega arith in (rw z at inv)

  -- ---- the first m of the places, then n more
  bad-in-first : (m n k : ℕ) → first_bad rule m k < k + m → first_bad rule (m + n) k ≡ first_bad rule m k
  unfolding first_bad
  bad-in-first zero n k l = absurd (omega arith)
  bad-in-first (suc m) n k l = rw suc-add (at (rule k) l (bad-in-first m n (suc k)))
    where
      at : (t : Bool) → cond t (first_bad rule m (suc k)) k < k + suc m
          → (first_bad rule m (suc k) < suc k + m → first_bad rule (m + n) (suc k) ≡ first_bad rule m (suc k))
          → cond t (first_bad rule (m + n) (suc k)) k ≡ cond t (first_bad rule m (suc k)) k
      at true h later = later (omega arith)
      at false h later = refl

  bad-after-first : (m n k : ℕ) → k + m ≤ first_bad rule m k → first_bad rule (m + n) k ≡ first_bad rule n (k + m)
  unfolding first_bad
  bad-after-first zero n k l = rw (zero-add, add-zero)
  bad-after-first (suc m) n k l = rw (suc-add, add-suc, ← suc-add) (at (rule k) l (bad-after-first m n (suc k)))
    where
      at : (t : Bool) → k + suc m ≤ cond t (first_bad rule m (suc k)) k
          → (suc k + m ≤ first_bad rule m (suc k) → first_bad rule (m + n) (suc k) ≡ first_bad rule n (suc k + m))
          → cond t (first_bad rule (m + n) (suc k)) k ≡ first_bad rule n (suc k + m)
      at true h later = later (omega arith)
      at false h later = absurd (omega arith)

  -- a loop that runs over the places from i up to e in parts, here the part up to t, which gives j
  module _ (e i t j w : ℕ) (low : i ≤ t) (high : t ≤ e) (inv : first_bad rule (e - i) i ≡ w) (part : j ≡ first_bad rule (t - i) i) where
    parted : first_bad rule (t - i + (e - t)) i ≡ w
    parted = let q : t - i + (e - t) ≡ e - i = omega arith in rw q inv

    pub part-bad : j < t → j ≡ w
    part-bad l = part ∙ sym (bad-in-first (t - i) (e - t) i (omega arith)) ∙ parted

    pub part-good : t ≤ j → first_bad rule (e - t) t ≡ w
    part-good l =
        let q : i + (t - i) ≡ t = omega arith in
        ap (first_bad rule (e - t)) (sym q) ∙ sym (bad-after-first (t - i) (e - t) i (omega arith)) ∙ parted

  -- places counted from s on
  pub bad-shift : (s n k : ℕ) → first_bad rule n (s + k) ≡ s + first_bad (λ q. rule (s + q)) n k
  unfolding first_bad
  bad-shift s zero k = refl
  bad-shift s (suc n) k = at (rule (s + k)) (bad-shift s n (suc k))
    where
      at : (t : Bool) → first_bad rule n (s + suc k) ≡ s + first_bad (λ q. rule (s + q)) n (suc k)
          → cond t (first_bad rule n (suc (s + k))) (s + k) ≡ s + cond t (first_bad (λ q. rule (s + q)) n (suc k)) k
      at true ih = rw add-suc at ih
      at false ih = refl

-- two rules that are the same at every place
pub bad-same : (f g : ℕ → Bool) → ((i : ℕ) → f i ≡ g i) → (n k : ℕ) → first_bad f n k ≡ first_bad g n k
unfolding first_bad
bad-same f g h zero k = refl
bad-same f g h (suc n) k = rw (h k, bad-same f g h n (suc k))

-- two rules that are the same at each of the places
pub bad-same-on : (f g : ℕ → Bool) (n k : ℕ) → ((i : ℕ) → k ≤ i → i < k + n → f i ≡ g i) → first_bad f n k ≡ first_bad g n k
unfolding first_bad
bad-same-on f g zero k h = refl
bad-same-on f g (suc n) k h =
    rw (h k (le_refl k) (omega arith), bad-same-on f g n (suc k) (λ i a b. h i (omega arith) (omega arith)))

-- a rule of two parts: where the first part fails first, and before that the second
pub bad-both : (f g : ℕ → Bool) (n k : ℕ) → first_bad (λ i. f i && g i) n k ≡ first_bad g (first_bad f n k - k) k
bad-both f g n k =
    let j = first_bad f n k in
    let r = first_bad g (j - k) k in
    let from : k ≤ j = bad-from f n k in
    let upto : j ≤ k + n = bad-upto f n k in
    let low : k ≤ r = bad-from g (j - k) k in
    let high : r ≤ k + (j - k) = bad-upto g (j - k) k in
    let good : (i : ℕ) → k ≤ i → i < j → i < r → (f i && g i) ≡ true =
    λ i a b c. both (f i) (g i) (good-before f n k i a b) (good-before g (j - k) k i a c) in
    ⊎_elim
    (λ l. bad-is (λ i. f i && g i) n k r low (omega arith) (λ i a b. good i a (omega arith) b)
    (no-right (f r) (g r) (bad-at g (j - k) k (omega arith))))
    (λ l. let same : r ≡ j = omega arith in
    ⊎_elim (λ m. bad-is (λ i. f i && g i) n k j from m (λ i a b. good i a b (omega arith)) (rw (bad-at f n k m)) ∙ sym same)
    (λ m. all-good (λ i. f i && g i) n k (λ i a b. good i a (omega arith) (omega arith)) ∙ omega arith) (below_or j (k + n)))
    (below_or r j)

-- ---- the list of what f gives at the n places from k on
module _ {A : Type 0} (f : ℕ → A) where
  pub list_length : (n k : ℕ) → length (list_from f n k) ≡ n
  unfolding list_from
  list_length zero k = refl
  list_length (suc n) k = ap suc (list_length n (suc k))

  pub list_at : (n k i : ℕ) (d : A) → i < n → get_or (list_from f n k) i d ≡ f (k + i)
  unfolding list_from
  list_at zero k i d h = absurd (omega arith)
  list_at (suc n) k zero d h = rw add-zero
  list_at (suc n) k (suc i) d h = rw (add-suc, ← suc-add) (list_at n (suc k) i d (omega arith))

  -- what a loop that stands at place k of n has left: a place more, or nothing
  pub list-turn : (n k : ℕ) → k < n → list_from f (n - k) k ≡ f k ∷ list_from f (n - (k + 1)) (k + 1)
  unfolding list_from
  list-turn n k h =
      let left : n - k ≡ suc (n - (k + 1)) = omega arith in
      let next : suc k ≡ k + 1 = omega arith in
      ap (λ (m : ℕ). list_from f m k) left ∙ ap (λ (m : ℕ). f k ∷ list_from f (n - (k + 1)) m) next

  pub list-end : (n k : ℕ) → n ≤ k → list_from f (n - k) k ≡ []
  unfolding list_from
  list-end n k h =
      let none : n - k ≡ 0 = omega arith in
      ap (λ (m : ℕ). list_from f m k) none
