-- The shape of label text: LEVEL, LEVEL:list, LEVEL:list:list or LEVEL::list; a list is one name, or one name, a comma and a list.
use Rattle.std.specs.Prelude.{ℕ, Bool, true, false, cond, ◌&&◌, ◌||◌, List, [], ◌∷◌, eqb, leb, length}
use Rattle.fields.specs.Bytes.{all}
use Rattle.fields.specs.Names.{name_byte, small_letter}

abbrev pub comma : ℕ
comma = 44

abbrev pub colon : ℕ
colon = 58

-- a byte that a name in label text may have: one of the names' alphabet, or a small letter (request R-9)
unfoldable pub text_byte : ℕ → Bool
text_byte x = name_byte x || small_letter x

abbrev pub all_text_bytes : List ℕ → Bool
all_text_bytes = all text_byte

-- x before the first of the parts
abbrev pub onto : ℕ → List (List ℕ) → List (List ℕ)
onto x [] = (x ∷ []) ∷ []
onto x (part ∷ rest) = (x ∷ part) ∷ rest

-- the parts of a text between the separators: one more than there are separators
unfoldable pub split : ℕ → List ℕ → List (List ℕ)
split mark [] = [] ∷ []
split mark (x ∷ xs) = let rest = split mark xs in cond (eqb x mark) ([] ∷ rest) (onto x rest)

abbrev pub is_empty : List ℕ → Bool
is_empty [] = true
is_empty (x ∷ xs) = false

-- one byte or more, each of the text's alphabet
unfoldable pub is_name : List ℕ → Bool
is_name [] = false
is_name (x ∷ xs) = all_text_bytes (x ∷ xs)

abbrev pub all_names : List (List ℕ) → Bool
all_names [] = true
all_names (n ∷ ns) = is_name n && all_names ns

-- one name or more, with commas between them
unfoldable pub is_list : List ℕ → Bool
is_list text = all_names (split comma text)

abbrev pub shape_of_parts : List (List ℕ) → Bool
shape_of_parts [] = false
shape_of_parts (level ∷ []) = is_name level
shape_of_parts (level ∷ first ∷ []) = is_name level && is_list first
shape_of_parts (level ∷ first ∷ second ∷ []) = is_name level && (is_empty first || is_list first) && is_list second
shape_of_parts (level ∷ first ∷ second ∷ third ∷ more) = false

-- text over the limit, or of another shape, is refused as text
unfoldable pub shape_rule : ℕ → List ℕ → Bool
shape_rule limit text = leb (length text) limit && shape_of_parts (split colon text)
