-- A text whose lists give the same names in another order reads as the same label. Assumes nothing.
use Prim.Native.Nat.{ℕ, ◌+◌}
use mathlib.Core.Path.{◌≡◌, sym, ap}
use mathlib.Core.Bool.{Bool, true, false, cond, true≢false}
use mathlib.Core.List.{List, [], ◌∷◌}
use lib.Dec.{ltb}
use lib.ListN.{length}
use Rattle.sets.specs.Sets.{none}
use Rattle.header.specs.Layout.{levels}
use Rattle.header.specs.Limits.{limits_of}
use Rattle.image.specs.Check.{IsAccepted}
use Rattle.labels.specs.Label.{Marks, label_exists}
use Rattle.labels.specs.Text.{comma, colon, split, is_empty, shape_rule}
use Rattle.labels.specs.Parse.{place_of_name, read, unknown, read_list, groups_after, read_sets, read_parts, of_text, parse_of}
use Rattle.labels.proofs.Tells.{then-read, text-parts, parsed-read}
use Rattle.printing.specs.Print.{text_of}
use Rattle.roundtrip.proofs.AnyOrder.{Reordered, any_order}
use Rattle.roundtrip.proofs.RoundTrip.{parse-of-print}

-- two lists, or two empty parts, with the same names in another order
pub record SameList (first other : List ℕ) : Type 0 where
  pub names : Reordered (split comma first) (split comma other)
  pub empty : is_empty first ≡ is_empty other

-- the parts of two texts: the same level, and lists with the same names
pub data SameNames : List (List ℕ) → List (List ℕ) → Type 0 where
  level : (l : List ℕ) → SameNames (l ∷ []) (l ∷ [])
  compartments : (l : List ℕ) {f g : List ℕ} → SameList f g → SameNames (l ∷ f ∷ []) (l ∷ g ∷ [])
  groups : (l : List ℕ) {f g h k : List ℕ} → SameList f g → SameList h k → SameNames (l ∷ f ∷ h ∷ []) (l ∷ g ∷ k ∷ [])

list-order : (im : List ℕ) (class : ℕ) (f g : List ℕ) → SameList f g → (offset offset' s : ℕ) → read_list im class offset f ≡ read s
    → read_list im class offset' g ≡ read s
list-order im class [] [] same offset offset' s e = e
list-order im class [] (y ∷ ys) same offset offset' s e = absurd (true≢false same.empty)
list-order im class (x ∷ xs) [] same offset offset' s e = absurd (true≢false (sym same.empty))
list-order im class (x ∷ xs) (y ∷ ys) same offset offset' s e = any_order im class same.names offset offset' none s e

module _ (im : List ℕ) (place offset : ℕ) (m : Marks) where
  groups-order : (c o o' : ℕ) (h k : List ℕ) → SameList h k → groups_after im place c o (h ∷ []) ≡ read m → groups_after im place c o' (k ∷ []) ≡ read m
  groups-order c o o' h k same e =
      let g = then-read (read_list im 3 o h) _ m e in
      rw (list-order im 3 h k same o o' g.0 g.1.0) g.1.1

  one-order : (f g : List ℕ) → SameList f g → read_sets im place offset (f ∷ []) ≡ read m → read_sets im place offset (g ∷ []) ≡ read m
  one-order f g same e =
      let c = then-read (read_list im 2 offset f) _ m e in
      rw (list-order im 2 f g same offset offset c.0 c.1.0) c.1.1

  two-order : (f g h k : List ℕ) → SameList f g → SameList h k → read_sets im place offset (f ∷ h ∷ []) ≡ read m
      → read_sets im place offset (g ∷ k ∷ []) ≡ read m
  two-order f g h k same other e =
      let c = then-read (read_list im 2 offset f) _ m e in
      rw (list-order im 2 f g same offset offset c.0 c.1.0)
      (groups-order c.0 (offset + length f + 1) (offset + length g + 1) h k other c.1.1)

parts-order : (im : List ℕ) (m : Marks) {ps qs : List (List ℕ)} → SameNames ps qs → read_parts im ps ≡ read m → read_parts im qs ≡ read m
parts-order im m (level l) e = e
parts-order im m (compartments l {f} {g} same) e = at (ltb (place_of_name im 1 l) (levels im)) e
  where
    at : (t : Bool) → cond t (read_sets im (place_of_name im 1 l) (length l + 1) (f ∷ [])) (unknown 0) ≡ read m
        → cond t (read_sets im (place_of_name im 1 l) (length l + 1) (g ∷ [])) (unknown 0) ≡ read m
    at true h = one-order im (place_of_name im 1 l) (length l + 1) m f g same h
    at false h = h
parts-order im m (groups l {f} {g} {h} {k} same other) e = at (ltb (place_of_name im 1 l) (levels im)) e
  where
    at : (t : Bool) → cond t (read_sets im (place_of_name im 1 l) (length l + 1) (f ∷ h ∷ [])) (unknown 0) ≡ read m
        → cond t (read_sets im (place_of_name im 1 l) (length l + 1) (g ∷ k ∷ [])) (unknown 0) ≡ read m
    at true d = two-order im (place_of_name im 1 l) (length l + 1) m f g h k same other d
    at false d = d

-- the same names in any order give the same label
pub parse-any-order : (im text other : List ℕ) (m : Marks) → SameNames (split colon text) (split colon other) → shape_rule (limits_of im).text other ≡ true
    → parse_of im text ≡ of_text (read m) → parse_of im other ≡ of_text (read m)
unfolding parse_of
parse-any-order im text other m same shaped e =
    let p = parsed-read im text (read m) e in
    rw (p.0, shaped) (ap of_text (parts-order im m same (text-parts im text m p.1)))

-- so a printed label reads back, also when its lists are given in another order
pub print-any-order : (im : List ℕ) → IsAccepted im → (m : Marks) → label_exists im m ≡ true → (other : List ℕ)
    → SameNames (split colon (text_of im m)) (split colon other) → shape_rule (limits_of im).text other ≡ true → parse_of im other ≡ of_text (read m)
print-any-order im acc m h other same shaped = parse-any-order im (text_of im m) other m same shaped (parse-of-print im acc m h)
