-- The places at which a test holds: which are listed, that they rise, and one more place. Assumes nothing.
use Prim.Native.Nat.{ℕ, zero, suc, ◌+◌, ◌-◌, ◌≤◌, ◌<◌}
use mathlib.Core.Path.{◌≡◌, refl, sym, ap, ◌∙◌}
use mathlib.Core.Bool.{Bool, true, false, cond, true≢false}
use mathlib.Core.List.{[], ◌∷◌, ◌++◌}
use mathlib.Core.Logic.{⊎_elim}
use native.Mathlib.Nat.{eq-or-lt_of_le}
use native.Mathlib.Omega.{arith}
use lib.ListN.{length, get_or}
use Rattle.fields.specs.Scan.{places_where}

module _ (test : ℕ → Bool) where
  -- ---- the first place
  pub where-here : (n k : ℕ) → test k ≡ true → places_where test (suc n) k ≡ k ∷ places_where test n (suc k)
  unfolding places_where
  where-here n k e = rw e

  pub where-not : (n k : ℕ) → test k ≡ false → places_where test (suc n) k ≡ places_where test n (suc k)
  unfolding places_where
  where-not n k e = rw e

  -- ---- the same for a loop that stands at place k of n
  pub turn-here : (n k : ℕ) → k < n → test k ≡ true → places_where test (n - k) k ≡ k ∷ places_where test (n - (k + 1)) (k + 1)
  turn-here n k h e =
      let left : n - k ≡ suc (n - (k + 1)) = omega arith in
      let next : suc k ≡ k + 1 = omega arith in
      ap (λ (m : ℕ). places_where test m k) left ∙ where-here (n - (k + 1)) k e ∙ ap (λ (m : ℕ). k ∷ places_where test (n - (k + 1)) m) next

  pub turn-not : (n k : ℕ) → k < n → test k ≡ false → places_where test (n - k) k ≡ places_where test (n - (k + 1)) (k + 1)
  turn-not n k h e =
      let left : n - k ≡ suc (n - (k + 1)) = omega arith in
      let next : suc k ≡ k + 1 = omega arith in
      ap (λ (m : ℕ). places_where test m k) left ∙ where-not (n - (k + 1)) k e ∙ ap (places_where test (n - (k + 1))) next

  pub turn : (n k : ℕ) → k < n → places_where test (n - k) k ≡ cond (test k) (k ∷ []) [] ++ places_where test (n - (k + 1)) (k + 1)
  turn n k h = at (test k) refl
    where
      at : (t : Bool) → test k ≡ t → places_where test (n - k) k ≡ cond t (k ∷ []) [] ++ places_where test (n - (k + 1)) (k + 1)
      at true e = turn-here n k h e
      at false e = turn-not n k h e

  pub turn_end : (n k : ℕ) → n ≤ k → places_where test (n - k) k ≡ []
  unfolding places_where
  turn_end n k h =
      let none : n - k ≡ 0 = omega arith in
      ap (λ (m : ℕ). places_where test m k) none

  -- ---- no more than were asked
  pub where-count : (n k : ℕ) → length (places_where test n k) ≤ n
  unfolding places_where
  where-count zero k = omega arith
  where-count (suc n) k = at (test k) (where-count n (suc k))
    where
      at : (t : Bool) → length (places_where test n (suc k)) ≤ n
          → length (cond t (k ∷ places_where test n (suc k)) (places_where test n (suc k))) ≤ suc n
      at true h = omega arith
      at false h = omega arith

  -- ---- nothing is listed exactly if the test holds nowhere
  pub nowhere : (n k : ℕ) → ((i : ℕ) → k ≤ i → i < k + n → test i ≡ false) → places_where test n k ≡ []
  unfolding places_where
  nowhere zero k h = refl
  nowhere (suc n) k h =
      where-not n k (h k (omega arith) (omega arith)) ∙ nowhere n (suc k) (λ i low high. h i (omega arith) (omega arith))

  pub none-where : (n k : ℕ) → length (places_where test n k) ≡ 0 → (i : ℕ) → k ≤ i → i < k + n → test i ≡ false
  none-where zero k e i low high = absurd (omega arith)
  none-where (suc n) k e i low high = at (test k) refl (none-where n (suc k))
    where
      at : (t : Bool) → test k ≡ t
          → (length (places_where test n (suc k)) ≡ 0 → (j : ℕ) → suc k ≤ j → j < suc k + n → test j ≡ false) → test i ≡ false
      at true q later = absurd (omega (arith, ap length (where-here n k q)))
      at false q later =
          ⊎_elim (λ p. ap test (sym p) ∙ q) (λ l. later (sym (ap length (where-not n k q)) ∙ e) i l (omega arith)) (eq-or-lt_of_le low)

  -- ---- what is listed: places asked at which the test holds
  pub record Listed (n k p : ℕ) : Type 0 where
    pub from : k ≤ p
    pub upto : p < k + n
    pub holds : test p ≡ true

  pub listed : (n k j : ℕ) → j < length (places_where test n k) → Listed n k (get_or (places_where test n k) j 0)
  unfolding places_where
  listed zero k j h = absurd (omega arith)
  listed (suc n) k j h = at (test k) refl h (listed n (suc k))
    where
      at : (t : Bool) → test k ≡ t → j < length (cond t (k ∷ places_where test n (suc k)) (places_where test n (suc k)))
          → ((i : ℕ) → i < length (places_where test n (suc k)) → Listed n (suc k) (get_or (places_where test n (suc k)) i 0))
          → Listed (suc n) k (get_or (cond t (k ∷ places_where test n (suc k)) (places_where test n (suc k))) j 0)
      at true e l later = one j l
        where
          one : (i : ℕ) → i < suc (length (places_where test n (suc k))) → Listed (suc n) k (get_or (k ∷ places_where test n (suc k)) i 0)
          one zero m = record { from = omega arith; upto = omega arith; holds = e }
          one (suc i) m = let q = later i (omega arith) in record { from = omega (arith, q.from); upto = omega (arith, q.upto); holds = q.holds }
      at false e l later = let q = later j l in record { from = omega (arith, q.from); upto = omega (arith, q.upto); holds = q.holds }

  -- ---- and each of them is
  pub every : (n k i : ℕ) → k ≤ i → i < k + n → test i ≡ true
      → (j : ℕ) × ((j < length (places_where test n k)) × (get_or (places_where test n k) j 0 ≡ i))
  every zero k i low high e = absurd (omega arith)
  every (suc n) k i low high e = at (test k) refl (every n (suc k) i)
    where
      at : (t : Bool) → test k ≡ t
          → (suc k ≤ i → i < suc k + n → test i ≡ true
          → (j : ℕ) × ((j < length (places_where test n (suc k))) × (get_or (places_where test n (suc k)) j 0 ≡ i)))
          → (j : ℕ) × ((j < length (places_where test (suc n) k)) × (get_or (places_where test (suc n) k) j 0 ≡ i))
      at true q later =
          rw (where-here n k q)
          (⊎_elim (λ p. (0, (omega arith, p))) (λ l. let r = later l (omega arith) e in (suc r.0, (omega (arith, r.1.0), r.1.1)))
          (eq-or-lt_of_le low))
      at false q later =
          rw (where-not n k q)
          (⊎_elim (λ p. absurd (true≢false (sym e ∙ ap test (sym p) ∙ q))) (λ l. later l (omega arith) e) (eq-or-lt_of_le low))

  -- ---- in order
  pub rising : (n k j : ℕ) → suc j < length (places_where test n k)
      → get_or (places_where test n k) j 0 < get_or (places_where test n k) (suc j) 0
  unfolding places_where
  rising zero k j h = absurd (omega arith)
  rising (suc n) k j h = at (test k) h (rising n (suc k)) (listed n (suc k))
    where
      at : (t : Bool) → suc j < length (cond t (k ∷ places_where test n (suc k)) (places_where test n (suc k)))
          → ((i : ℕ) → suc i < length (places_where test n (suc k))
          → get_or (places_where test n (suc k)) i 0 < get_or (places_where test n (suc k)) (suc i) 0)
          → ((i : ℕ) → i < length (places_where test n (suc k)) → Listed n (suc k) (get_or (places_where test n (suc k)) i 0))
          → get_or (cond t (k ∷ places_where test n (suc k)) (places_where test n (suc k))) j 0
          < get_or (cond t (k ∷ places_where test n (suc k)) (places_where test n (suc k))) (suc j) 0
      at true l later here = one j l
        where
          one : (i : ℕ) → suc i < suc (length (places_where test n (suc k)))
              → get_or (k ∷ places_where test n (suc k)) i 0 < get_or (places_where test n (suc k)) i 0
          one zero m = (here 0 (omega arith)).from
          one (suc i) m = later i (omega arith)
      at false l later here = later j l
