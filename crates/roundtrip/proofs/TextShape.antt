-- The text of a label that the policy has: its parts between colons, and that they have the shape of label text. Assumes nothing.
use Prim.Native.Nat.{ℕ, zero, suc, ◌+◌, ◌^◌, ◌≤◌, ◌<◌}
use mathlib.Core.Path.{◌≡◌, refl, sym, ap, ◌∙◌}
use mathlib.Core.Bool.{Bool, true, false, cond, not, ◌&&◌, ◌||◌, true≢false, or-true}
use mathlib.Core.List.{List, [], ◌∷◌, ◌++◌, append-nil}
use native.Mathlib.Omega.{arith}
use borrow.Author.Tests.{le-leb}
use lib.Dec.{eqb, leb}
use lib.ListN.{length, drop}
use Rattle.fields.specs.Bytes.{all}
use Rattle.fields.proofs.Both.{both, both_left, both_right}
use Rattle.sets.specs.Sets.{has, empty}
use Rattle.sets.proofs.Bounds.{below-has}
use Rattle.sets.proofs.Meets.{empty-lacks, empty-place}
use Rattle.header.specs.Layout.{compartments, groups}
use Rattle.header.specs.Limits.{limits_of}
use Rattle.image.specs.Check.{IsAccepted}
use Rattle.labels.specs.Label.{Marks, label_exists}
use Rattle.labels.specs.Text.{comma, colon, split, is_empty, is_name, all_names, is_list, shape_of_parts, shape_rule}
use Rattle.labels.specs.Parse.{class_count}
use Rattle.printing.specs.Print.{name_at, entry_at, listed, list_text, section, text_of}
use Rattle.roundtrip.proofs.Unmarked.{lacks, split-alone, split-joined}
use Rattle.printing.proofs.Listed.{entry_has, entry-lacks}
use Rattle.labels.proofs.Existing.{exists-means}
use Rattle.printing.proofs.Whole.{text-short}
use Rattle.roundtrip.proofs.OwnNames.{name-is, name-no-comma, name-no-colon}
use Rattle.roundtrip.proofs.ListsRead.{names_from, parts_from}

-- ---- a mark that two texts lack is lacking in both together, and in what is left of one
lacks_both : (mark : ℕ) (a b : List ℕ) → lacks mark a ≡ true → lacks mark b ≡ true → lacks mark (a ++ b) ≡ true
unfolding all
lacks_both mark [] b h k = k
lacks_both mark (x ∷ xs) b h k =
    both (not (eqb x mark)) (lacks mark (xs ++ b)) (both_left (not (eqb x mark)) (lacks mark xs) h)
    (lacks_both mark xs b (both_right (not (eqb x mark)) (lacks mark xs) h) k)

lacks-left : (mark : ℕ) (s : List ℕ) → lacks mark s ≡ true → lacks mark (drop 1 s) ≡ true
unfolding all
lacks-left mark [] h = h
lacks-left mark (x ∷ xs) h = both_right (not (eqb x mark)) (lacks mark xs) h

module _ (im : List ℕ) (acc : IsAccepted im) (class : ℕ) (low : 1 ≤ class) (high : class ≤ 3) (set : ℕ) where
  -- ---- a list has no colon
  listed-no-colon : (n k : ℕ) → k + n ≤ class_count im class → lacks colon (listed im class set n k) ≡ true
  unfolding listed all
  listed-no-colon zero k h = refl
  listed-no-colon (suc n) k h =
      lacks_both colon (entry_at im class set k) (listed im class set n (suc k)) (at (has set k) refl)
      (listed-no-colon n (suc k) (omega arith))
    where
      at : (t : Bool) → has set k ≡ t → lacks colon (entry_at im class set k) ≡ true
      at true e = rw (entry_has im class set k e) (name-no-colon im acc class low high k (omega arith))
      at false e = rw (entry-lacks im class set k e)

  pub list-no-colon : lacks colon (list_text im class (class_count im class) set) ≡ true
  unfolding list_text
  list-no-colon = lacks-left colon (listed im class set (class_count im class) 0) (listed-no-colon (class_count im class) 0 (omega arith))

  -- ---- a list of a set that has a place is names with commas between them
  all-names : (n k : ℕ) → k + n ≤ class_count im class → all_names (names_from im class set n k) ≡ true
  unfolding names_from
  all-names zero k h = refl
  all-names (suc n) k h = at (has set k) (all-names n (suc k) (omega arith))
    where
      rest : List (List ℕ)
      rest = names_from im class set n (suc k)

      at : (t : Bool) → all_names rest ≡ true → all_names (cond t (name_at im class k ∷ rest) rest) ≡ true
      at true later = both (is_name (name_at im class k)) (all_names rest) (name-is im acc class low high k (omega arith)) later
      at false later = later

  list-parts : (n k : ℕ) → k + n ≤ class_count im class → (p : ℕ) → k ≤ p → p < k + n → has set p ≡ true
      → split comma (drop 1 (listed im class set n k)) ≡ names_from im class set n k
  unfolding listed names_from
  list-parts zero k h p from upto e = absurd (omega arith)
  list-parts (suc n) k h p from upto e = at (has set k) refl (λ f. list-parts n (suc k) (omega arith) p f (omega arith) e)
    where
      rest : List ℕ
      rest = listed im class set n (suc k)

      at : (t : Bool) → has set k ≡ t → (suc k ≤ p → split comma (drop 1 rest) ≡ names_from im class set n (suc k))
          → split comma (drop 1 (entry_at im class set k ++ rest))
          ≡ cond t (name_at im class k ∷ names_from im class set n (suc k)) (names_from im class set n (suc k))
      at true d later =
          rw (entry_has im class set k d)
          (parts_from im acc class low high set n (suc k) (omega arith) (name_at im class k) (name-no-comma im acc class low high k (omega arith)))
      at false d later =
          let other : p ≡ k → ⊥ = λ q. true≢false (sym e ∙ ap (has set) q ∙ d) in
          rw (entry-lacks im class set k d) (later (omega (arith, other)))

  pub list-is : set < 2 ^ class_count im class → empty set ≡ false → is_list (list_text im class (class_count im class) set) ≡ true
  unfolding is_list list_text
  list-is h e =
      let place = empty-place set e in
      let p = place.0 in
      let inside : p < class_count im class = below-has set (class_count im class) h p place.1 in
      rw (list-parts (class_count im class) 0 (omega arith) p (omega arith) (omega arith) place.1)
      (all-names (class_count im class) 0 (omega arith))

-- ---- the list of an empty set is empty
listed-none : (im : List ℕ) (class set n k : ℕ) → empty set ≡ true → listed im class set n k ≡ []
unfolding listed
listed-none im class set zero k e = refl
listed-none im class set (suc n) k e =
    rw (entry-lacks im class set k (empty-lacks set e k)) (listed-none im class set n (suc k) e)

pub list-none : (im : List ℕ) (class count set : ℕ) → empty set ≡ true → list_text im class count set ≡ []
unfolding list_text
list-none im class count set e = rw (listed-none im class set count 0 e)

-- ---- the parts of the text between colons
module _ (im : List ℕ) (acc : IsAccepted im) (m : Marks) (h : label_exists im m ≡ true) where
  abbrev level : List ℕ
  level = name_at im 1 m.level

  abbrev first : List ℕ
  first = list_text im 2 (compartments im) m.compartments

  abbrev second : List ℕ
  second = list_text im 3 (groups im) m.groups

  level-no-colon : lacks colon level ≡ true
  level-no-colon = name-no-colon im acc 1 (omega arith) (omega arith) m.level (exists-means im m h).level

  first-no-colon : lacks colon first ≡ true
  first-no-colon = list-no-colon im acc 2 (omega arith) (omega arith) m.compartments

  second-no-colon : lacks colon second ≡ true
  second-no-colon = list-no-colon im acc 3 (omega arith) (omega arith) m.groups

  pub parts-level : empty m.groups ≡ true → empty m.compartments ≡ true → split colon (text_of im m) ≡ level ∷ []
  unfolding text_of
  parts-level e d = rw (e, d, append-nil level) (split-alone colon level level-no-colon)

  pub parts_first : empty m.groups ≡ true → empty m.compartments ≡ false → split colon (text_of im m) ≡ level ∷ first ∷ []
  unfolding text_of section
  parts_first e d =
      rw (e, d)
      (split-joined colon level first level-no-colon ∙ ap (λ (ps : List (List ℕ)). level ∷ ps) (split-alone colon first first-no-colon))

  pub parts-both : empty m.groups ≡ false → split colon (text_of im m) ≡ level ∷ first ∷ second ∷ []
  unfolding text_of section
  parts-both e =
      rw e
      (split-joined colon level (first ++ 58 ∷ second) level-no-colon
      ∙ ap (λ (ps : List (List ℕ)). level ∷ ps)
      (split-joined colon first second first-no-colon ∙ ap (λ (ps : List (List ℕ)). first ∷ ps) (split-alone colon second second-no-colon)))

  -- ---- they have the shape
  level-named : is_name level ≡ true
  level-named = name-is im acc 1 (omega arith) (omega arith) m.level (exists-means im m h).level

  first-listed : empty m.compartments ≡ false → is_list first ≡ true
  first-listed = list-is im acc 2 (omega arith) (omega arith) m.compartments (exists-means im m h).compartments

  second-listed : empty m.groups ≡ false → is_list second ≡ true
  second-listed = list-is im acc 3 (omega arith) (omega arith) m.groups (exists-means im m h).groups

  first_either : (is_empty first || is_list first) ≡ true
  first_either = at (empty m.compartments) refl
    where
      at : (t : Bool) → empty m.compartments ≡ t → (is_empty first || is_list first) ≡ true
      at true e = rw (list-none im 2 (compartments im) m.compartments e)
      at false e = rw (first-listed e) (or-true (is_empty first))

  parts-shaped : shape_of_parts (split colon (text_of im m)) ≡ true
  parts-shaped = at (empty m.groups) refl (empty m.compartments) refl
    where
      at : (g : Bool) → empty m.groups ≡ g → (c : Bool) → empty m.compartments ≡ c → shape_of_parts (split colon (text_of im m)) ≡ true
      at true e true d = rw (parts-level e d) level-named
      at true e false d = rw (parts_first e d) (both (is_name level) (is_list first) level-named (first-listed d))
      at false e c d =
          rw (parts-both e)
          (both (is_name level && (is_empty first || is_list first)) (is_list second)
          (both (is_name level) (is_empty first || is_list first) level-named first_either) (second-listed e))

  pub shape-of-text : shape_rule (limits_of im).text (text_of im m) ≡ true
  unfolding shape_rule
  shape-of-text =
      both (leb (length (text_of im m)) (limits_of im).text) (shape_of_parts (split colon (text_of im m)))
      (le-leb (length (text_of im m)) (limits_of im).text (text-short im acc m h)) parts-shaped
