-- Squares of 64 rows of 64 bits: what it is to transpose one, and one of the six stages in which code does it. Assumes nothing.
use Rattle.std.specs.Prelude.{ℕ, ◌+◌, ◌*◌, ◌/◌, ◌%◌, ◌^◌, ◌<◌, ◌≡◌, List, length, get_or}
use Rattle.std.specs.Int.Bits.{bit_xor}
use Rattle.sets.specs.Sets.{has, intersection}

-- bit j of row i after it is bit i of row j before it
pub record Transposed (before after : List ℕ) : Type 0 where
  pub size : length after ≡ 64
  pub bits : (i j : ℕ) → i < 64 → j < 64 → has (get_or after i 0) j ≡ has (get_or before j 0) i
  pub words : (i : ℕ) → i < 64 → get_or after i 0 < 2 ^ 64

-- ---- one stage makes two rows of two. It exchanges the bits of b at the places of the mask with those of a that stand s places higher
-- where these differ
unfoldable pub mixed : (s mask a b : ℕ) → ℕ
mixed s mask a b = intersection (bit_xor (a / 2 ^ s) b) mask

unfoldable pub low_row : (s mask a b : ℕ) → ℕ
low_row s mask a b = bit_xor a (mixed s mask a b * 2 ^ s % 2 ^ 64)

unfoldable pub high_row : (s mask a b : ℕ) → ℕ
high_row s mask a b = bit_xor b (mixed s mask a b)

-- ---- two steps at once, by s and by t, of the first n fours of rows: rows i, i + 16, i + 32 and i + 48 become rows 4 i to 4 i + 3
pub record Staged (s mask t next n : ℕ) (before after : List ℕ) : Type 0 where
  pub size : length after ≡ 64
  pub first : (i : ℕ) → i < n
      → get_or after (4 * i) 0
      ≡ low_row t next (low_row s mask (get_or before i 0) (get_or before (i + 32) 0)) (low_row s mask (get_or before (i + 16) 0) (get_or before (i + 48) 0))
  pub second : (i : ℕ) → i < n
      → get_or after (4 * i + 1) 0
      ≡ high_row t next (low_row s mask (get_or before i 0) (get_or before (i + 32) 0)) (low_row s mask (get_or before (i + 16) 0) (get_or before (i + 48) 0))
  pub third : (i : ℕ) → i < n
      → get_or after (4 * i + 2) 0
      ≡ low_row t next (high_row s mask (get_or before i 0) (get_or before (i + 32) 0)) (high_row s mask (get_or before (i + 16) 0) (get_or before (i + 48) 0))
  pub fourth : (i : ℕ) → i < n
      → get_or after (4 * i + 3) 0
      ≡ high_row t next (high_row s mask (get_or before i 0) (get_or before (i + 32) 0)) (high_row s mask (get_or before (i + 16) 0) (get_or before (i + 48) 0))
