-- A set of places as words of 64 places each, the lowest first. Any number of words is allowed. Assumes nothing.
use Rattle.std.specs.Prelude.{ℕ, zero, suc, ◌+◌, ◌*◌, ◌/◌, ◌%◌, ◌^◌, List, [], ◌∷◌}

-- the k-th 64 places of s, moved down to 0..63
abbrev pub word_of : ℕ → ℕ → ℕ
word_of s k = s / 2 ^ (64 * k) % 2 ^ 64

-- the first n words of s, the lowest first
unfoldable pub words_of : ℕ → ℕ → List ℕ
words_of zero s = []
words_of (suc n) s = s % 2 ^ 64 ∷ words_of n (s / 2 ^ 64)

-- The set whose words are those, the lowest first. A machine word is below 2 ^ 64 already; the remainder makes laws hold with no premise.
unfoldable pub joined : List ℕ → ℕ
joined [] = 0
joined (w ∷ ws) = w % 2 ^ 64 + 2 ^ 64 * joined ws
