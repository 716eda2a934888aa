-- A list that was printed is read back: its parts between commas are the names of the set's places. Assumes nothing.
use Prim.Native.Nat.{ℕ, zero, suc, ◌+◌, ◌^◌, ◌≤◌, ◌<◌}
use mathlib.Core.Path.{◌≡◌, refl, sym, ap, ◌∙◌}
use mathlib.Core.Bool.{Bool, true, false, cond}
use mathlib.Core.List.{List, [], ◌∷◌, ◌++◌, append-nil}
use native.Mathlib.Nat.{zero-add, add-zero}
use native.Mathlib.Numerals.{add-one}
use native.Mathlib.Omega.{arith}
use borrow.Author.Tests.{lt-ltb, le-ltb}
use lib.ListN.{length, drop, length-append}
use Rattle.sets.specs.Sets.{has, none, one, union, collect}
use Rattle.sets.proofs.Has.{collect-has, collect-put, collect-pass}
use Rattle.sets.proofs.Bounds.{collect-self}
use Rattle.image.specs.Check.{IsAccepted}
use Rattle.labels.specs.Text.{comma, split}
use Rattle.labels.specs.Parse.{class_count, read, read_names, read_list}
use Rattle.printing.specs.Print.{name_at, entry_at, listed, list_text}
use Rattle.roundtrip.proofs.Unmarked.{lacks, split-alone, split-joined}
use Rattle.printing.proofs.Listed.{entry_has, entry-lacks}
use Rattle.roundtrip.proofs.OwnNames.{place-of-own-name, name-lengths, name-no-comma}

-- the names of those of the n places from k on that the set has
unfoldable pub names_from : List ℕ → ℕ → ℕ → ℕ → ℕ → List (List ℕ)
names_from im class set zero k = []
names_from im class set (suc n) k =
    let rest = names_from im class set n (suc k) in cond (has set k) (name_at im class k ∷ rest) rest

-- a text with a byte is read by its parts
read_some : (im : List ℕ) (class offset : ℕ) (text : List ℕ) → 1 ≤ length text
    → read_list im class offset text ≡ read_names im class offset none (split comma text)
read_some im class offset [] h = absurd (omega arith)
read_some im class offset (x ∷ xs) h = refl

module _ (im : List ℕ) (acc : IsAccepted im) (class : ℕ) (low : 1 ≤ class) (high : class ≤ 3) (set : ℕ) where
  -- ---- the parts of a list
  -- a name and the list that follows it
  pub parts_from : (n k : ℕ) → k + n ≤ class_count im class → (name : List ℕ) → lacks comma name ≡ true
      → split comma (name ++ listed im class set n k) ≡ name ∷ names_from im class set n k
  unfolding listed names_from
  parts_from zero k h name l = rw (append-nil name) (split-alone comma name l)
  parts_from (suc n) k h name l = at (has set k) refl (parts_from n (suc k) (omega arith))
    where
      rest : List ℕ
      rest = listed im class set n (suc k)

      at : (t : Bool) → has set k ≡ t
          → ((s : List ℕ) → lacks comma s ≡ true → split comma (s ++ rest) ≡ s ∷ names_from im class set n (suc k))
          → split comma (name ++ (entry_at im class set k ++ rest))
          ≡ name ∷ cond t (name_at im class k ∷ names_from im class set n (suc k)) (names_from im class set n (suc k))
      at true e later =
          rw (entry_has im class set k e)
          (split-joined comma name (name_at im class k ++ rest) l
          ∙ ap (λ (ps : List (List ℕ)). name ∷ ps)
          (later (name_at im class k) (name-no-comma im acc class low high k (omega arith))))
      at false e later = rw (entry-lacks im class set k e) (later name l)

  -- a list is read by its names
  list-names : (n k : ℕ) → k + n ≤ class_count im class → (offset : ℕ)
      → read_list im class offset (drop 1 (listed im class set n k)) ≡ read_names im class offset none (names_from im class set n k)
  unfolding listed names_from read_names
  list-names zero k h offset = refl
  list-names (suc n) k h offset = at (has set k) refl (list-names n (suc k) (omega arith) offset)
    where
      rest : List ℕ
      rest = listed im class set n (suc k)

      at : (t : Bool) → has set k ≡ t
          → read_list im class offset (drop 1 rest) ≡ read_names im class offset none (names_from im class set n (suc k))
          → read_list im class offset (drop 1 (entry_at im class set k ++ rest))
          ≡ read_names im class offset none (cond t (name_at im class k ∷ names_from im class set n (suc k)) (names_from im class set n (suc k)))
      at true e later =
          let l = name-lengths im acc class low high k (omega arith) in
          let some : 1 ≤ length (name_at im class k ++ rest) = omega (arith, length-append (name_at im class k) rest) in
          rw (entry_has im class set k e)
          (read_some im class offset (name_at im class k ++ rest) some
          ∙ ap (read_names im class offset none)
          (parts_from n (suc k) (omega arith) (name_at im class k) (name-no-comma im acc class low high k (omega arith))))
      at false e later = rw (entry-lacks im class set k e) later

  -- ---- reading the names: before place k the set's places below k are read
  not_yet : (k : ℕ) → has (collect (has set) k) k ≡ false
  not_yet k = collect-has (has set) k k ∙ rw (le-ltb k k (omega arith))

  names-read : (n k : ℕ) → k + n ≤ class_count im class → (offset : ℕ)
      → read_names im class offset (collect (has set) k) (names_from im class set n k) ≡ read (collect (has set) (k + n))
  unfolding names_from read_names
  names-read zero k h offset = rw add-zero
  names-read (suc n) k h offset = at (has set k) refl (names-read n (suc k) (omega arith))
    where
      end : suc k + n ≡ k + suc n
      end = omega arith

      at : (t : Bool) → has set k ≡ t
          → ((o : ℕ) → read_names im class o (collect (has set) (suc k)) (names_from im class set n (suc k)) ≡ read (collect (has set) (suc k + n)))
          → read_names im class offset (collect (has set) k)
          (cond t (name_at im class k ∷ names_from im class set n (suc k)) (names_from im class set n (suc k)))
          ≡ read (collect (has set) (k + suc n))
      at true e later =
          let c : collect (has set) (suc k) ≡ union (collect (has set) k) (one k) = ap (collect (has set)) (sym (add-one k)) ∙ collect-put (has set) k e in
          rw (
            place-of-own-name im acc class low high k (omega arith),
            lt-ltb k (class_count im class) (omega arith),
            not_yet k,
            ← c,
            ← end,
          )
          (later (offset + length (name_at im class k) + 1))
      at false e later =
          let c : collect (has set) (suc k) ≡ collect (has set) k = ap (collect (has set)) (sym (add-one k)) ∙ collect-pass (has set) k e in
          rw (← c, ← end) (later offset)

  pub list_read : set < 2 ^ class_count im class → (offset : ℕ)
      → read_list im class offset (list_text im class (class_count im class) set) ≡ read set
  unfolding list_text collect
  list_read h offset =
      list-names (class_count im class) 0 (omega arith) offset
      ∙ names-read (class_count im class) 0 (omega arith) offset
      ∙ ap read (ap (collect (has set)) (zero-add (class_count im class)) ∙ collect-self set (class_count im class) h)
