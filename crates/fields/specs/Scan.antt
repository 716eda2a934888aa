-- The first place at which a rule fails. Every search over blocks, records, groups and users is this one definition at its own rule.
use Rattle.std.specs.Prelude.{ℕ, zero, suc, ◌+◌, Bool, cond, not, List, [], ◌∷◌, eqb}

-- the first of the places k, k + 1, .., k + n - 1 at which the rule fails; k + n where it fails at none
unfoldable pub first_bad : (ℕ → Bool) → ℕ → ℕ → ℕ
first_bad rule zero k = k
first_bad rule (suc n) k = let rest = first_bad rule n (suc k) in cond (rule k) rest k

-- the rule holds at each of the n places from k on
abbrev pub everywhere : (ℕ → Bool) → ℕ → ℕ → Bool
everywhere rule n k = eqb (first_bad rule n k) (k + n)

-- the first of the n places from k on at which the test holds; k + n where it holds at none
abbrev pub first_where : (ℕ → Bool) → ℕ → ℕ → ℕ
first_where test = first_bad (λ i. not (test i))

-- what f gives at the n places from k on, in order
unfoldable pub list_from : {A : Type 0} → (ℕ → A) → ℕ → ℕ → List A
list_from f zero k = []
list_from f (suc n) k = f k ∷ list_from f n (suc k)

-- those of the n places from k on at which the test holds, in order
unfoldable pub places_where : (ℕ → Bool) → ℕ → ℕ → List ℕ
places_where test zero k = []
places_where test (suc n) k = let rest = places_where test n (suc k) in cond (test k) (k ∷ rest) rest
