-- What rises from each record to the next rises throughout, and what differs between an earlier and a later record tells
-- records apart. Assumes nothing.
use Rattle.std.proofs.Common.{◌≡◌, ℕ, zero, suc, ◌-◌, ◌<◌, ◌≤◌, Bool, true, false, ltb, sym, refl, subst, ⊎_elim, eq-or-lt_of_le, arith, ltb-false, ltb-true}

-- R is an order; the places are those from `from` up to `to`
pub rise : (R : ℕ → ℕ → Type 0) → ((i j k : ℕ) → R i j → R j k → R i k)
    → (from to : ℕ) → ((k : ℕ) → from < k → k < to → R (k - 1) k)
    → (j k : ℕ) → from ≤ j → j < k → k < to → R j k
rise R trans from to step j zero low less high = absurd (omega arith)
rise R trans from to step j (suc k) low less high =
    let back : suc k - 1 ≡ k = omega arith in
    let next : R k (suc k) = subst (λ (i : ℕ). R i (suc k)) back (step (suc k) (omega arith) high) in
    let upto : j ≤ k = omega arith in
    ⊎_elim (λ q. subst (λ (i : ℕ). R i (suc k)) (sym q) next)
    (λ l. trans j k (suc k) (rise R trans from to step j k low l (omega arith)) next)
    (eq-or-lt_of_le upto)

-- E is what two records would share
pub apart : (E : ℕ → ℕ → Type 0) → ((j k : ℕ) → E j k → E k j) → (to : ℕ) → ((j k : ℕ) → j < k → k < to → E j k → ⊥)
    → (j k : ℕ) → j < to → k < to → E j k → j ≡ k
apart E swap to differ j k hj hk e = at (ltb j k) refl (ltb k j) refl
  where
    at : (s : Bool) → ltb j k ≡ s → (t : Bool) → ltb k j ≡ t → j ≡ k
    at true a t b = absurd (differ j k (ltb-true j k a) hk e)
    at false a true b = absurd (differ k j (ltb-true k j b) hj (swap j k e))
    at false a false b = omega (arith, ltb-false j k a, ltb-false k j b)
