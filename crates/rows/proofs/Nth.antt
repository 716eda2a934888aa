-- What it means that the n-th row of those that pass a test is changed, said without recursion; and what a read counts. Assumes nothing.
use Rattle.std.proofs.Common.{Ok, Err}
use Prim.Native.Nat.{ℕ, zero, suc, ◌≤◌}
use mathlib.Core.Path.{◌≡◌, refl, sym, ap, ◌∙◌}
use mathlib.Core.Bool.{Bool, true, false, cond, true≢false, false≢true}
use mathlib.Core.List.{List, [], ◌∷◌, ◌++◌, flatten}
use native.Mathlib.Omega.{arith}
use lib.Dec.{leb}
use lib.ListN.{length, get_or, set}
use Rattle.buffers.specs.Pasting.{at_front}
use Rattle.refusals.specs.declared.Refusal.TheVariants.{Room}
use Rattle.refusals.specs.Answers.{on_checked, Amount, Checked}
use Rattle.sessions.specs.Session.{SessionMarks, session_rights}
use Rattle.rows.specs.Run.{kept, changed_nth}
use Rattle.rows.specs.Table.{readable_rows, table_answer}
use Rattle.rows.specs.Reading.{handed_out, read_rows_of}
use Rattle.rows.proofs.Standing.{AllWide}

-- ---- changing the n-th row that passes: any test, any change
module _ (test : List ℕ → Bool) (change : List ℕ → List ℕ) where
  -- a row that fails the test does not count
  passed_over : (n : ℕ) (row : List ℕ) (rows : List (List ℕ)) → test row ≡ false
      → changed_nth test change n (row ∷ rows) ≡ row ∷ changed_nth test change n rows
  passed_over zero row rows e = simp e
  passed_over (suc n) row rows e = simp e

  -- wherever it stands, a row that passes is changed if n rows before it pass, and all others stay
  pub changed-at : (before : List (List ℕ)) (row : List ℕ) (after : List (List ℕ)) → test row ≡ true
      → changed_nth test change (length (kept test before)) (before ++ (row ∷ after)) ≡ before ++ (change row ∷ after)
  changed-at [] row after e = simp e
  changed-at (other ∷ before) row after e = at (test other) refl (changed-at before row after e)
    where
      at : (t : Bool) → test other ≡ t
          → changed_nth test change (length (kept test before)) (before ++ (row ∷ after)) ≡ before ++ (change row ∷ after)
          → changed_nth test change (length (kept test (other ∷ before))) (other ∷ (before ++ (row ∷ after)))
          ≡ other ∷ (before ++ (change row ∷ after))
      at true d later = simp d (ap (λ (l : List (List ℕ)). other ∷ l) later)
      at false d later =
          passed_over (length (kept test (other ∷ before))) other (before ++ (row ∷ after)) d
          ∙ simp d (ap (λ (l : List (List ℕ)). other ∷ l) later)

  -- where there is no n-th row that passes, all rows stay
  pub changed-none : (n : ℕ) (rows : List (List ℕ)) → length (kept test rows) ≤ n → changed_nth test change n rows ≡ rows
  changed-none n [] h = refl
  changed-none n (row ∷ rows) h = at n (test row) refl h (λ m. changed-none m rows)
    where
      at : (n : ℕ) (t : Bool) → test row ≡ t → length (kept test (row ∷ rows)) ≤ n
          → ((m : ℕ) → length (kept test rows) ≤ m → changed_nth test change m rows ≡ rows)
          → changed_nth test change n (row ∷ rows) ≡ row ∷ rows
      at zero true e h later = let none : suc (length (kept test rows)) ≤ zero = simp e at h in absurd (omega arith)
      at (suc n) true e h later =
          let fewer : suc (length (kept test rows)) ≤ suc n = simp e at h in
          simp e (ap (λ (l : List (List ℕ)). row ∷ l) (later n (omega arith)))
      at n false e h later = passed_over n row rows e ∙ ap (λ (l : List (List ℕ)). row ∷ l) (later n (simp e at h))

  -- the number of rows stays
  pub changed-length : (n : ℕ) (rows : List (List ℕ)) → length (changed_nth test change n rows) ≡ length rows
  changed-length n [] = refl
  changed-length zero (row ∷ rows) = at (test row) refl (changed-length zero rows)
    where
      at : (t : Bool) → test row ≡ t → length (changed_nth test change zero rows) ≡ length rows
          → length (changed_nth test change zero (row ∷ rows)) ≡ suc (length rows)
      at true e later = simp e
      at false e later = simp e (ap suc later)
  changed-length (suc n) (row ∷ rows) = at (test row) refl (changed-length n rows) (changed-length (suc n) rows)
    where
      at : (t : Bool) → test row ≡ t → length (changed_nth test change n rows) ≡ length rows
          → length (changed_nth test change (suc n) rows) ≡ length rows
          → length (changed_nth test change (suc n) (row ∷ rows)) ≡ suc (length rows)
      at true e next later = simp e (ap suc next)
      at false e next later = simp e (ap suc later)

  -- a row that fails the test stays as it was, at its place among all rows
  pub changed-outside : (n : ℕ) (rows : List (List ℕ)) (k : ℕ) → test (get_or rows k []) ≡ false
      → get_or (changed_nth test change n rows) k [] ≡ get_or rows k []
  changed-outside n [] k f = refl
  changed-outside zero (row ∷ rows) k f = at k (test row) refl f (changed-outside zero rows)
    where
      at : (k : ℕ) (t : Bool) → test row ≡ t → test (get_or (row ∷ rows) k []) ≡ false
          → ((i : ℕ) → test (get_or rows i []) ≡ false → get_or (changed_nth test change zero rows) i [] ≡ get_or rows i [])
          → get_or (changed_nth test change zero (row ∷ rows)) k [] ≡ get_or (row ∷ rows) k []
      at zero true e f later = absurd (true≢false (sym e ∙ f))
      at zero false e f later = simp e
      at (suc k) true e f later = simp e
      at (suc k) false e f later = simp e (later k f)
  changed-outside (suc n) (row ∷ rows) k f = at k (test row) refl f (changed-outside n rows) (changed-outside (suc n) rows)
    where
      at : (k : ℕ) (t : Bool) → test row ≡ t → test (get_or (row ∷ rows) k []) ≡ false
          → ((i : ℕ) → test (get_or rows i []) ≡ false → get_or (changed_nth test change n rows) i [] ≡ get_or rows i [])
          → ((i : ℕ) → test (get_or rows i []) ≡ false → get_or (changed_nth test change (suc n) rows) i [] ≡ get_or rows i [])
          → get_or (changed_nth test change (suc n) (row ∷ rows)) k [] ≡ get_or (row ∷ rows) k []
      at zero t e f next later = refl
      at (suc k) true e f next later = simp e (next k f)
      at (suc k) false e f next later = simp e (later k f)

  abbrev StillPasses : ℕ → List (List ℕ) → Type 0
  StillPasses n passing = test (change (get_or passing n [])) ≡ true

  abbrev NthSet : ℕ → List (List ℕ) → Type 0
  NthSet n rows =
      StillPasses n (kept test rows)
      → kept test (changed_nth test change n rows) ≡ set (kept test rows) n (change (get_or (kept test rows) n []))

  -- of the rows that pass, the n-th is changed and no other, if it still passes then
  pub changed-passing : (n : ℕ) (rows : List (List ℕ)) → test (change (get_or (kept test rows) n [])) ≡ true
      → kept test (changed_nth test change n rows) ≡ set (kept test rows) n (change (get_or (kept test rows) n []))
  changed-passing n [] = λ p. refl
  changed-passing zero (row ∷ rows) = at (test row) refl (changed-passing zero rows)
    where
      at : (t : Bool) → test row ≡ t → NthSet zero rows → NthSet zero (row ∷ rows)
      at true e later p =
          let passes : test (change row) ≡ true = simp e at p in
          simp (e, passes)
      at false e later p = simp e (later (simp e at p))
  changed-passing (suc n) (row ∷ rows) = at (test row) refl (changed-passing n rows) (changed-passing (suc n) rows)
    where
      at : (t : Bool) → test row ≡ t → NthSet n rows → NthSet (suc n) rows → NthSet (suc n) (row ∷ rows)
      at true e next later p =
          let passes : StillPasses n (kept test rows) = simp e at p in
          simp e (ap (λ (l : List (List ℕ)). row ∷ l) (next passes))
      at false e next later p = simp e (later (simp e at p))

  pub changed-wide : (w : ℕ) → ((row : List ℕ) → length row ≡ w → length (change row) ≡ w)
      → (n : ℕ) (rows : List (List ℕ)) → AllWide w rows → AllWide w (changed_nth test change n rows)
  changed-wide w same n [] a = a
  changed-wide w same zero (row ∷ rows) a = at (test row) refl (changed-wide w same zero rows a.1)
    where
      at : (t : Bool) → test row ≡ t → AllWide w (changed_nth test change zero rows) → AllWide w (changed_nth test change zero (row ∷ rows))
      at true e later = simp e (same row a.0, a.1)
      at false e later = simp e (a.0, later)
  changed-wide w same (suc n) (row ∷ rows) a =
      at (test row) refl (changed-wide w same n rows a.1) (changed-wide w same (suc n) rows a.1)
    where
      at : (t : Bool) → test row ≡ t → AllWide w (changed_nth test change n rows) → AllWide w (changed_nth test change (suc n) rows)
          → AllWide w (changed_nth test change (suc n) (row ∷ rows))
      at true e next later = simp e (a.0, next)
      at false e next later = simp e (a.0, later)

-- ---- what a read counts
abbrev is_done : Amount → Bool
is_done (Ok count) = true
is_done (Err r) = false

abbrev count_in : Amount → ℕ
count_in (Ok count) = count
count_in (Err r) = zero

-- a done read's count is how many rows that session may read then
pub read_count : (im : List ℕ) (s : SessionMarks) (table : List ℕ) (w : ℕ) (buffer : List ℕ) (count : ℕ) (after : List ℕ)
    → read_rows_of im s table w buffer ≡ (Ok count, after) → count ≡ length (readable_rows im (session_rights im s) table w)
unfolding read_rows_of handed_out
read_count im s table w buffer count after =
    at (table_answer im s table w) (readable_rows im (session_rights im s) table w)
    (leb (length (flatten (readable_rows im (session_rights im s) table w))) (length buffer))
  where
    at : (c : Checked) (rows : List (List ℕ)) (t : Bool)
        → ◌≡◌ {A = Amount × List ℕ}
        (on_checked c (λ r. (Err r, buffer)) (cond t (Ok (length rows), at_front (flatten rows) buffer) (Err Room, buffer)))
        (Ok count, after)
        → count ≡ length rows
    at (Ok tt) rows true e = sym (ap (λ (x : Amount × List ℕ). count_in x.0) e)
    at (Ok tt) rows false e = absurd (false≢true (ap (λ (x : Amount × List ℕ). is_done x.0) e))
    at (Err r) rows t e = absurd (false≢true (ap (λ (x : Amount × List ℕ). is_done x.0) e))
