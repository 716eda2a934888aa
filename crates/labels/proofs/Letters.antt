-- A text and the same text with other letters small or capital read alike (request R-9). Assumes nothing.
use Prim.Native.Nat.{ℕ, ◌+◌, ◌<◌}
use mathlib.Core.Path.{◌≡◌, refl, sym, ap, ◌∙◌}
use mathlib.Core.Bool.{Bool, true, false, cond}
use mathlib.Core.List.{List, [], ◌∷◌, map}
use native.Mathlib.Omega.{arith}
use lib.Dec.{eqb}
use lib.ListN.{length}
use Rattle.fields.specs.Bytes.{all}
use Rattle.fields.specs.Names.{folded, folded_name}
use Rattle.fields.proofs.Folding.{folded-length, folded-mark, folded-text, folded-name-twice}
use Rattle.sets.specs.Sets.{one, union}
use Rattle.labels.specs.Text.{comma, colon, text_byte, all_text_bytes, onto, split, is_empty, is_name, all_names, is_list, shape_of_parts, shape_rule}
use Rattle.labels.specs.Parse.{matches, place_of_name, Reading, read, refused, then_read, read_names, read_list, groups_after, read_sets, read_parts, read_text}

-- parts, or names, each folded
abbrev folded_all : List (List ℕ) → List (List ℕ)
folded_all = map folded_name

-- ---- the shape
onto-folded : (x : ℕ) (parts : List (List ℕ)) → onto (folded x) (folded_all parts) ≡ folded_all (onto x parts)
onto-folded x [] = refl
onto-folded x (p ∷ ps) = refl

split-folded : (mark : ℕ) → mark < 65 → (text : List ℕ) → split mark (folded_name text) ≡ folded_all (split mark text)
unfolding split
split-folded mark low [] = refl
split-folded mark low (x ∷ xs) = rw (folded-mark x mark low, split-folded mark low xs) (at (eqb x mark))
  where
    at : (t : Bool) → cond t ([] ∷ folded_all (split mark xs)) (onto (folded x) (folded_all (split mark xs)))
        ≡ folded_all (cond t ([] ∷ split mark xs) (onto x (split mark xs)))
    at true = refl
    at false = onto-folded x (split mark xs)

bytes-folded : (name : List ℕ) → all_text_bytes (folded_name name) ≡ all_text_bytes name
unfolding all text_byte
bytes-folded [] = refl
bytes-folded (x ∷ xs) = rw (folded-text x, bytes-folded xs)

name-folded : (name : List ℕ) → is_name (folded_name name) ≡ is_name name
unfolding is_name
name-folded [] = refl
name-folded (x ∷ xs) = bytes-folded (x ∷ xs)

names-folded : (names : List (List ℕ)) → all_names (folded_all names) ≡ all_names names
names-folded [] = refl
names-folded (n ∷ ns) = rw (name-folded n, names-folded ns)

list-folded : (text : List ℕ) → is_list (folded_name text) ≡ is_list text
unfolding is_list
list-folded text = rw (split-folded comma (omega arith) text) (names-folded (split comma text))

empty-folded : (text : List ℕ) → is_empty (folded_name text) ≡ is_empty text
empty-folded [] = refl
empty-folded (x ∷ xs) = refl

parts-folded : (parts : List (List ℕ)) → shape_of_parts (folded_all parts) ≡ shape_of_parts parts
parts-folded [] = refl
parts-folded (level ∷ []) = name-folded level
parts-folded (level ∷ first ∷ []) = rw (name-folded level, list-folded first)
parts-folded (level ∷ first ∷ second ∷ []) = rw (name-folded level, empty-folded first, list-folded first, list-folded second)
parts-folded (level ∷ first ∷ second ∷ third ∷ more) = refl

shape-folded : (limit : ℕ) (text : List ℕ) → shape_rule limit (folded_name text) ≡ shape_rule limit text
unfolding shape_rule
shape-folded limit text = rw (folded-length text, split-folded colon (omega arith) text, parts-folded (split colon text))

-- ---- the names
module _ (im : List ℕ) where
  pub place-folded : (class : ℕ) (name : List ℕ) → place_of_name im class (folded_name name) ≡ place_of_name im class name
  unfolding place_of_name matches
  place-folded class name = rw (folded-name-twice name)

  read-names-folded : (class offset set : ℕ) (names : List (List ℕ)) → read_names im class offset set (folded_all names) ≡ read_names im class offset set names
  unfolding read_names
  read-names-folded class offset set [] = refl
  read-names-folded class offset set (n ∷ ns) =
      let later = read-names-folded class (offset + length n + 1) (union set (one (place_of_name im class n))) ns in
      rw (place-folded class n, folded-length n, later)

  read-list-folded : (class offset : ℕ) (text : List ℕ) → read_list im class offset (folded_name text) ≡ read_list im class offset text
  read-list-folded class offset [] = refl
  read-list-folded class offset (x ∷ xs) = rw (split-folded comma (omega arith) (x ∷ xs)) (read-names-folded class offset _ (split comma (x ∷ xs)))

  groups-folded : (level compartments offset : ℕ) (parts : List (List ℕ))
      → groups_after im level compartments offset (folded_all parts) ≡ groups_after im level compartments offset parts
  groups-folded level compartments offset [] = refl
  groups-folded level compartments offset (part ∷ more) = rw (read-list-folded 3 offset part)

  sets-folded : (level offset : ℕ) (parts : List (List ℕ)) → read_sets im level offset (folded_all parts) ≡ read_sets im level offset parts
  sets-folded level offset [] = refl
  sets-folded level offset (part ∷ more) = rw (read-list-folded 2 offset part, folded-length part) (then_same (read_list im 2 offset part))
    where
      then_same : (r : Reading ℕ) → then_read r (λ c. groups_after im level c (offset + length part + 1) (folded_all more))
          ≡ then_read r (λ c. groups_after im level c (offset + length part + 1) more)
      then_same (read c) = groups-folded level c (offset + length part + 1) more
      then_same (refused reason) = refl

  read-parts-folded : (parts : List (List ℕ)) → read_parts im (folded_all parts) ≡ read_parts im parts
  read-parts-folded [] = refl
  read-parts-folded (level ∷ rest) = rw (place-folded 1 level, folded-length level, sets-folded _ _ rest)

  -- a text reads as it does folded
  pub read-folded : (text : List ℕ) → read_text im (folded_name text) ≡ read_text im text
  read-folded text = rw (shape-folded _ text, split-folded colon (omega arith) text, read-parts-folded (split colon text))

  -- two texts that differ only in which letters are small read alike
  pub read_alike : (text other : List ℕ) → folded_name text ≡ folded_name other → read_text im text ≡ read_text im other
  read_alike text other e = sym (read-folded text) ∙ ap (read_text im) e ∙ read-folded other
