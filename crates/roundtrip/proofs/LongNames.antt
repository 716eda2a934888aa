-- A name over 30 bytes is that of no component: read in a list it is unknown. Assumes nothing.
use Prim.Native.Nat.{ℕ, ◌≤◌, ◌<◌}
use mathlib.Core.Path.{◌≡◌, refl, ap}
use mathlib.Core.Bool.{Bool, true, false}
use mathlib.Core.List.{List, ◌∷◌}
use native.Mathlib.Omega.{arith}
use lib.Dec.{ltb}
use borrow.Author.Tests.{ltb-true}
use lib.ListN.{length}
use Rattle.fields.specs.Names.{folded_name}
use Rattle.fields.proofs.Folding.{folded-length}
use Rattle.fields.proofs.Meaning.{found_at, same-means}
use Rattle.image.specs.Check.{IsAccepted}
use Rattle.labels.specs.Parse.{matches, class_count, place_of_name, unknown, read_names}
use Rattle.printing.specs.Print.{name_at}
use Rattle.labels.proofs.Classes.{class-has}
use Rattle.printing.proofs.Listed.{name-short}

module _ (im : List ℕ) (acc : IsAccepted im) (class : ℕ) (low : 1 ≤ class) (high : class ≤ 3) (name : List ℕ) (long : 30 < length name) where
  -- its class lacks it
  pub long-name : ltb (place_of_name im class name) (class_count im class) ≡ false
  unfolding place_of_name matches
  long-name = at (ltb (place_of_name im class name) (class_count im class)) refl
    where
      at : (t : Bool) → ltb (place_of_name im class name) (class_count im class) ≡ t → t ≡ false
      at false e = refl
      at true e =
          let p = place_of_name im class name in
          let l : p < class_count im class = ltb-true p (class_count im class) e in
          let same = same-means (name_at im class p) (folded_name name) (found_at (λ j. matches (name_at im class j) name) (class_count im class) 0 (omega (arith, l))) in
          let short = name-short im acc class p (class-has im class p low high l) in
          absurd (omega (arith, short, ap length same, folded-length name))

  -- so it is 6, at its own offset
  pub long-unknown : (offset set : ℕ) (rest : List (List ℕ)) → read_names im class offset set (name ∷ rest) ≡ unknown offset
  unfolding read_names
  long-unknown offset set rest = rw long-name refl
