-- What a `Groups` value stands for: a set of places below `width`. No contract names its fields. Assumes nothing.
use Rattle.std.specs.Prelude.{ℕ, ◌/◌, ◌%◌, List, [], ◌∷◌, set, slice_index}
use Rattle.sets.specs.Words.{joined}
use Rattle.sets.specs.declared.groups.Groups.{Groups}

-- how many places a set of groups has room for
abbrev pub width : ℕ
width = 256

-- the words of g, the lowest first
abbrev pub words_in : Groups → List ℕ
words_in g = g.w0 ∷ g.w1 ∷ g.w2 ∷ g.w3 ∷ []

-- the places of g
unfoldable pub places_of : Groups → ℕ
places_of g = joined (words_in g)

-- the places of the words that f makes of those of a and b, each of one of both
abbrev pub by_words : (ℕ → ℕ → ℕ) → Groups → Groups → ℕ
by_words f a b = joined (f a.w0 b.w0 ∷ f a.w1 b.w1 ∷ f a.w2 b.w2 ∷ f a.w3 b.w3 ∷ [])

-- the places of g with the word that f makes of that of place p and the place in it
abbrev pub at_place : (ℕ → ℕ → ℕ) → Groups → ℕ → ℕ
at_place f g p = joined (set (words_in g) (p / 64) (f (slice_index (words_in g) (p / 64)) (p % 64)))
