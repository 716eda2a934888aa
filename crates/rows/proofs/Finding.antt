-- The n-th row that passes a test. Assumes nothing.
use Prim.Native.Nat.{ℕ, zero, suc, zero-le, ◌+◌, ◌≤◌, ◌<◌}
use mathlib.Core.Path.{◌≡◌, refl, ap, ◌∙◌}
use mathlib.Core.Bool.{Bool, true, false}
use mathlib.Core.Logic.{◌⊎◌, inl, inr, ⊎_elim}
use mathlib.Core.List.{List, [], ◌∷◌, ◌++◌, flatten}
use native.Mathlib.Omega.{arith}
use lib.ListN.{length, get_or, length-append}
use Rattle.rows.specs.Run.{kept, offset_of, changed_nth}

module _ (f : List ℕ → Bool) where
  -- there is one: the rows before it make its offset, and a change leaves them and those after it
  pub record Located (n : ℕ) (rows : List (List ℕ)) : Type 0 where
    pub before : List (List ℕ)
    pub row : List ℕ
    pub after : List (List ℕ)
    pub split : rows ≡ before ++ row ∷ after
    pub offset : offset_of f n rows ≡ length (flatten before)
    pub exists : n < length (kept f rows)
    pub nth : get_or (kept f rows) n [] ≡ row
    pub change : (g : List ℕ → List ℕ) → changed_nth f g n rows ≡ before ++ g row ∷ after

  -- there is none
  pub record Missing (n : ℕ) (rows : List (List ℕ)) : Type 0 where
    pub none : length (kept f rows) ≤ n
    pub end : offset_of f n rows ≡ length (flatten rows)

  -- one row more in front, of which the search goes on with m
  record Further (n m : ℕ) (row : List ℕ) (rows : List (List ℕ)) : Type 0 where
    moved : offset_of f n (row ∷ rows) ≡ length row + offset_of f m rows
    some : m < length (kept f rows) → n < length (kept f (row ∷ rows))
    few : length (kept f rows) ≤ m → length (kept f (row ∷ rows)) ≤ n
    same : get_or (kept f (row ∷ rows)) n [] ≡ get_or (kept f rows) m []
    changes : (g : List ℕ → List ℕ) → changed_nth f g n (row ∷ rows) ≡ row ∷ changed_nth f g m rows

  further : (n m : ℕ) (row : List ℕ) (rows : List (List ℕ)) → Further n m row rows
      → Located m rows ⊎ Missing m rows → Located n (row ∷ rows) ⊎ Missing n (row ∷ rows)
  unfolding flatten
  further n m row rows h =
      ⊎_elim
      (λ (l : Located m rows).
      inl
      (record {
        before = row ∷ l.before;
        row = l.row;
        after = l.after;
        split = ap (λ (x : List (List ℕ)). row ∷ x) l.split;
        offset = h.moved ∙ ap (λ (x : ℕ). length row + x) l.offset ∙ rw length-append;
        exists = h.some l.exists;
        nth = h.same ∙ l.nth;
        change = λ (g : List ℕ → List ℕ). h.changes g ∙ ap (λ (x : List (List ℕ)). row ∷ x) (l.change g);
      }))
      (λ (q : Missing m rows).
      inr (record { none = h.few q.none; end = h.moved ∙ ap (λ (x : ℕ). length row + x) q.end ∙ rw length-append }))

  pub located : (n : ℕ) (rows : List (List ℕ)) → Located n rows ⊎ Missing n rows
  unfolding offset_of flatten
  located n [] = inr (record { none = zero-le; end = refl })
  located zero (row ∷ rows) = at (f row) refl (located zero rows)
    where
      at : (t : Bool) → f row ≡ t → Located zero rows ⊎ Missing zero rows → Located zero (row ∷ rows) ⊎ Missing zero (row ∷ rows)
      at true e later =
          inl
          (record {
            before = [];
            row = row;
            after = rows;
            split = refl;
            offset = rw e;
            exists = simp e (omega arith);
            nth = rw e;
            change = λ (g : List ℕ → List ℕ). rw e;
          })
      at false e later =
          further zero zero row rows
          (record {
            moved = rw e;
            some = λ h. simp e h;
            few = λ h. simp e h;
            same = rw e;
            changes = λ (g : List ℕ → List ℕ). rw e;
          })
          later
  located (suc n) (row ∷ rows) = at (f row) refl (located n rows) (located (suc n) rows)
    where
      at : (t : Bool) → f row ≡ t → Located n rows ⊎ Missing n rows → Located (suc n) rows ⊎ Missing (suc n) rows
          → Located (suc n) (row ∷ rows) ⊎ Missing (suc n) (row ∷ rows)
      at true e next later =
          further (suc n) n row rows
          (record {
            moved = rw e;
            some = λ h. simp e (omega arith);
            few = λ h. simp e (omega arith);
            same = rw e;
            changes = λ (g : List ℕ → List ℕ). rw e;
          })
          next
      at false e next later =
          further (suc n) (suc n) row rows
          (record {
            moved = rw e;
            some = λ h. simp e h;
            few = λ h. simp e h;
            same = rw e;
            changes = λ (g : List ℕ → List ℕ). rw e;
          })
          later
