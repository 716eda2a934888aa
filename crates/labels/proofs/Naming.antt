-- One step of reading a list, by what the look-up of its first name gives. Assumes nothing.
use Rattle.std.proofs.Common.{Option, Some, None}
use Prim.Native.Nat.{ℕ, ◌+◌, ◌-◌, ◌≤◌, ◌<◌}
use mathlib.Core.Path.{◌≡◌, refl, sym, ap, ◌∙◌}
use mathlib.Core.Bool.{Bool, true, false, cond}
use mathlib.Core.List.{List, ◌∷◌}
use native.Mathlib.Omega.{arith}
use borrow.Author.Tests.{ltb-true}
use lib.Dec.{ltb}
use lib.ListN.{length, take, drop, length-take, length-drop, drop_of_length-le}
use lib.Seq.{drop-cons}
use Rattle.sets.specs.Sets.{has, none, one, union}
use Rattle.labels.specs.Text.{comma, split}
use Rattle.labels.specs.Parse.{class_count, place_of_name, read, unknown, repeated, read_names, read_list}
use Rattle.labels.specs.Lists.{found_of, until_mark, after_mark}
use Rattle.labels.proofs.Splitting.{split_from}

-- ---- what a look-up tells
took-place : (t : Bool) (p q : ℕ) → cond {A = Option ℕ} t (Some p) None ≡ Some q → (t ≡ true) × (p ≡ q)
took-place true p q e = (refl, cc)
took-place false p q e = let z : ◌≡◌ {A = ℕ} 0 1 = cc in absurd (omega arith)

took-nothing : (t : Bool) (p : ℕ) → cond {A = Option ℕ} t (Some p) None ≡ None → t ≡ false
took-nothing true p e = let z : ◌≡◌ {A = ℕ} 0 1 = cc in absurd (omega arith)
took-nothing false p e = refl

module _ (im : List ℕ) (class : ℕ) (name : List ℕ) where
  pub found_at : (p : ℕ) → found_of im class name ≡ Some p
      → (ltb (place_of_name im class name) (class_count im class) ≡ true) × (place_of_name im class name ≡ p)
  unfolding found_of
  found_at p e = took-place (ltb (place_of_name im class name) (class_count im class)) (place_of_name im class name) p e

  pub found_below : (p : ℕ) → found_of im class name ≡ Some p → p < class_count im class
  found_below p e =
      let h = found_at p e in
      omega (arith, h.1, ltb-true (place_of_name im class name) (class_count im class) h.0)

  pub found_nothing : found_of im class name ≡ None → ltb (place_of_name im class name) (class_count im class) ≡ false
  unfolding found_of
  found_nothing e = took-nothing (ltb (place_of_name im class name) (class_count im class)) (place_of_name im class name) e

names-next : (im : List ℕ) (class at set : ℕ) (name : List ℕ) (rest : List (List ℕ)) (p : ℕ) → found_of im class name ≡ Some p → has set p ≡ false
    → read_names im class at set (name ∷ rest) ≡ read_names im class (at + length name + 1) (union set (one p)) rest
unfolding read_names
names-next im class at set name rest p found h = let f = found_at im class name p found in rw (f.0, f.1, h)

-- ---- the list from `at` on, whose first name ends at `end`
module _ (im : List ℕ) (class : ℕ) (text : List ℕ) (at end set : ℕ) (inside : at ≤ length text)
    (ends : end ≡ at + until_mark comma (drop at text)) (below : end ≤ length text) where
  pub list-unknown : found_of im class (take (end - at) (drop at text)) ≡ None
      → unknown at ≡ read_names im class at set (split comma (drop at text))
  unfolding read_names
  list-unknown e = rw (split_from comma text at end inside ends, found_nothing im class (take (end - at) (drop at text)) e)

  module _ (p : ℕ) (found : found_of im class (take (end - at) (drop at text)) ≡ Some p) where
    pub list-repeated : has set p ≡ true → repeated at ≡ read_names im class at set (split comma (drop at text))
    unfolding read_names
    list-repeated h =
        let f = found_at im class (take (end - at) (drop at text)) p found in
        rw (split_from comma text at end inside ends, f.0, f.1, h)

    next-offset : at + length (take (end - at) (drop at text)) + 1 ≡ end + 1
    next-offset = simp (length-take, length-drop) (omega arith)

    pub list-next : has set p ≡ false
        → read_names im class (end + 1) (union set (one p)) (after_mark comma text end) ≡ read_names im class at set (split comma (drop at text))
    list-next h =
        sym (rw (split_from comma text at end inside ends)
        (names-next im class at set (take (end - at) (drop at text)) (after_mark comma text end) p found h
        ∙ ap (λ (o : ℕ). read_names im class o (union set (one p)) (after_mark comma text end)) next-offset))

-- ---- a list that has a byte is read by its names; one that has none is the empty set
module _ (im : List ℕ) (class : ℕ) (text : List ℕ) (at : ℕ) where
  pub list-begun : at < length text → read_names im class at none (split comma (drop at text)) ≡ read_list im class at (drop at text)
  list-begun h = rw (drop-cons text at 0 h)

  pub list-empty : length text ≤ at → read none ≡ read_list im class at (drop at text)
  list-empty h = rw (drop_of_length-le text h)
