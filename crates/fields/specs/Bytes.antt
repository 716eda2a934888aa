-- Numbers and unused bytes in a run of bytes. All numbers are little-endian.
use Rattle.std.specs.Prelude.{ℕ, ◌+◌, ◌*◌, ◌<◌, Bool, true, ◌&&◌, List, [], ◌∷◌, eqb, get_or, take, drop}

-- byte k of s; 0 past its end
abbrev pub byte_at : List ℕ → ℕ → ℕ
byte_at s k = get_or s k 0

-- its numbers are bytes, as in every run that a call is lent
abbrev pub AreBytes : List ℕ → Type 0
AreBytes s = (k : ℕ) → byte_at s k < 256

-- the n bytes of s from k on, or those of them that s has
abbrev pub part : List ℕ → ℕ → ℕ → List ℕ
part s k n = take n (drop k s)

-- the numbers in 2, 4 and 8 bytes of s from k on
unfoldable pub number2 : List ℕ → ℕ → ℕ
number2 s k = byte_at s k + 256 * byte_at s (k + 1)

unfoldable pub number4 : List ℕ → ℕ → ℕ
number4 s k = number2 s k + 65536 * number2 s (k + 2)

unfoldable pub number8 : List ℕ → ℕ → ℕ
number8 s k = number4 s k + 4294967296 * number4 s (k + 4)

-- the test holds of every byte
unfoldable pub all : (ℕ → Bool) → List ℕ → Bool
all test [] = true
all test (x ∷ xs) = test x && all test xs

-- unused bytes are zero
abbrev pub all_zero : List ℕ → Bool
all_zero = all (λ x. eqb x 0)
