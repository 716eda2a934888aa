-- Laws of keeping the rows that pass a test, and of changing the n-th of them. Assumes nothing.
use Prim.Native.Nat.{ℕ, zero, suc}
use mathlib.Core.Path.{◌≡◌, refl, sym, ap, ◌∙◌}
use mathlib.Core.Bool.{Bool, true, false, true≢false}
use mathlib.Core.List.{List, [], ◌∷◌}
use Rattle.rows.specs.Run.{kept, changed_nth}

-- ---- a narrow test: every row that passes it passes a wide one too
abbrev pub Inside : (List ℕ → Bool) → (List ℕ → Bool) → Type 0
Inside test most = (row : List ℕ) → test row ≡ true → most row ≡ true

-- what the narrow test keeps it finds among the rows that the wide test keeps
pub kept-inside : (test most : List ℕ → Bool) → Inside test most → (rows : List (List ℕ)) → kept test rows ≡ kept test (kept most rows)
kept-inside test most inside [] = refl
kept-inside test most inside (row ∷ rows) = at (test row) (most row) refl refl (kept-inside test most inside rows)
  where
    at : (t m : Bool) → test row ≡ t → most row ≡ m → kept test rows ≡ kept test (kept most rows)
        → kept test (row ∷ rows) ≡ kept test (kept most (row ∷ rows))
    at true true e d later = simp (e, d) (ap (λ (l : List (List ℕ)). row ∷ l) later)
    at true false e d later = absurd (true≢false (sym (inside row e) ∙ d))
    at false true e d later = simp (e, d) later
    at false false e d later = simp (e, d) later

-- the n-th row that passes the narrow test is changed in any way: what the wide test keeps then depends only on what it kept before
module _ (test most : List ℕ → Bool) (inside : Inside test most) (change : List ℕ → List ℕ) where
  abbrev ChangedInside : ℕ → List (List ℕ) → Type 0
  ChangedInside n rows = kept most (changed_nth test change n rows) ≡ kept most (changed_nth test change n (kept most rows))

  pub changed-inside : (n : ℕ) (rows : List (List ℕ)) → ChangedInside n rows
  changed-inside n [] = refl
  changed-inside zero (row ∷ rows) = at (test row) (most row) refl refl (changed-inside zero rows)
    where
      changed_row : (m : Bool) → most (change row) ≡ m → kept most (change row ∷ rows) ≡ kept most (change row ∷ kept most rows)
      changed_row true e = simp e (ap (λ (l : List (List ℕ)). change row ∷ l) (kept-inside most most (λ r h. h) rows))
      changed_row false e = simp e (kept-inside most most (λ r h. h) rows)

      at : (t m : Bool) → test row ≡ t → most row ≡ m → ChangedInside zero rows → ChangedInside zero (row ∷ rows)
      at true true e d later = simp (e, d) (changed_row (most (change row)) refl)
      at true false e d later = absurd (true≢false (sym (inside row e) ∙ d))
      at false true e d later = simp (e, d) (ap (λ (l : List (List ℕ)). row ∷ l) later)
      at false false e d later = simp (e, d) later
  changed-inside (suc n) (row ∷ rows) = at (test row) (most row) refl refl (changed-inside n rows) (changed-inside (suc n) rows)
    where
      at : (t m : Bool) → test row ≡ t → most row ≡ m → ChangedInside n rows → ChangedInside (suc n) rows → ChangedInside (suc n) (row ∷ rows)
      at true true e d next later = simp (e, d) (ap (λ (l : List (List ℕ)). row ∷ l) next)
      at true false e d next later = absurd (true≢false (sym (inside row e) ∙ d))
      at false true e d next later = simp (e, d) (ap (λ (l : List (List ℕ)). row ∷ l) later)
      at false false e d next later = simp (e, d) later
