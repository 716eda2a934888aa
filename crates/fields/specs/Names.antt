-- Names: their alphabet, the field that holds one, equality, order, and small letters taken as capitals.
use Rattle.std.specs.Prelude.{ℕ, ◌+◌, ◌-◌, Bool, true, false, cond, not, ◌&&◌, ◌||◌, List, [], ◌∷◌, map, eqb, leb, ltb}
use Rattle.fields.specs.Bytes.{byte_at, part, all, all_zero}
use Rattle.fields.specs.declared.names.Letters.{Letters}
use Rattle.fields.specs.declared.names.Letters.TheVariants.{Exact, Folded}

-- A..Z, 0..9 and underscore
unfoldable pub name_byte : ℕ → Bool
name_byte x = leb 65 x && leb x 90 || leb 48 x && leb x 57 || eqb x 95

abbrev pub all_name_bytes : List ℕ → Bool
all_name_bytes = all name_byte

-- a name's field is 31 bytes: its length, then the name, then unused bytes
unfoldable pub name_in : List ℕ → List ℕ
name_in field = part field 1 (byte_at field 0)

-- the length is 1 to 30, the name is of the alphabet, and the bytes after it are zero
unfoldable pub name_rule : List ℕ → Bool
name_rule field =
    leb 1 (byte_at field 0) && leb (byte_at field 0) 30 && all_name_bytes (name_in field)
    && all_zero (part field (1 + byte_at field 0) (30 - byte_at field 0))

-- of the 30 bytes after a name's length, here at the front of s, the one at place j: it is zero where `inside` has a zero, else of the
-- alphabet. Nothing is asked from place 30 on
unfoldable pub letter_at : List ℕ → List ℕ → ℕ → Bool
letter_at s inside j = not (ltb j 30) || cond (eqb (byte_at inside j) 0) (eqb (byte_at s j) 0) (name_byte (byte_at s j))

-- two names, or any runs of bytes, are the same, byte for byte
unfoldable pub same_bytes : List ℕ → List ℕ → Bool
same_bytes [] [] = true
same_bytes [] (y ∷ ys) = false
same_bytes (x ∷ xs) [] = false
same_bytes (x ∷ xs) (y ∷ ys) = eqb x y && same_bytes xs ys

-- ---- small letters, which label text may have (request R-9) and images have not
-- a..z
unfoldable pub small_letter : ℕ → Bool
small_letter x = leb 97 x && leb x 122

-- a small letter is taken as its capital, any other byte as it is
unfoldable pub folded : ℕ → ℕ
folded x = cond (small_letter x) (x - 32) x

abbrev pub folded_name : List ℕ → List ℕ
folded_name = map folded

-- a name as it is compared with an image's: in its letters, or folded
abbrev pub in_letters : Letters → List ℕ → List ℕ
in_letters Exact name = name
in_letters Folded name = folded_name name

-- ---- order
-- the first name comes before the second in byte order; of two names of which one begins the other, the shorter is lower
unfoldable pub name_before : List ℕ → List ℕ → Bool
name_before [] [] = false
name_before [] (y ∷ ys) = true
name_before (x ∷ xs) [] = false
name_before (x ∷ xs) (y ∷ ys) = ltb x y || eqb x y && name_before xs ys
