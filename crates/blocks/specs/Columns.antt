-- The columns of half a block, 16 rows of 16 bytes: what the sums of a block are made of.
use Rattle.std.specs.Prelude.{◌≡◌, ℕ, zero, suc, ◌+◌, ◌-◌, ◌*◌, ◌/◌, ◌%◌, ◌<◌, ◌≤◌, List, [], ◌∷◌, length, slice_index}
use Rattle.fields.specs.Bytes.{byte_at}
use Rattle.blocks.specs.declared.columns.Columns.{Columns}
use Rattle.blocks.specs.declared.columns.LaneTerms.{LaneTerms}

-- f at the numbers below n
unfoldable pub sum : (ℕ → ℕ) → ℕ → ℕ
sum f zero = 0
sum f (suc n) = sum f n + f n

-- the byte in row q and column j
abbrev pub cell : List ℕ → ℕ → ℕ → ℕ
cell half j q = byte_at half (16 * q + j)

-- of the first r rows and column j: the sum of its bytes, and the sum with the byte of row q counted as often as rows follow. A byte is at most 255
pub record Column (half : List ℕ) (r j once often : ℕ) : Type 0 where
  pub all : once ≡ sum (cell half j) r
  pub counted : often ≡ sum (λ q. cell half j q * (r - 1 - q)) r
  pub low : once ≤ 255 * r
  pub high : often ≤ sum (λ q. 255 * q) r

-- ---- two columns in a lane
-- the even column's number, below 65,536, where `mixed` is that and 256 times the odd column's, mod 65,536
unfoldable pub even_of : ℕ → ℕ → ℕ
even_of mixed odd = (mixed + 65536 - 256 * (odd % 256)) % 65536

-- the numbers of both columns
abbrev pub lane : ℕ → ℕ → List ℕ
lane mixed odd = even_of mixed odd ∷ odd ∷ []

-- the number of column j: lane i has columns 2 i and 2 i + 1
unfoldable pub column_in : List ℕ → List ℕ → ℕ → ℕ
column_in mixed odd j = slice_index (lane (slice_index mixed (j / 2)) (slice_index odd (j / 2))) (j % 2)

-- of column j, the sum of its bytes, and the sum with each counted as often as rows follow
abbrev pub once_at : Columns → ℕ → ℕ
once_at s j = column_in s.mixed s.odd j

abbrev pub often_at : Columns → ℕ → ℕ
often_at s j = column_in s.mixed_above s.odd_above j

-- what is kept is that of the first r rows of every column
pub record Columned (half : List ℕ) (r : ℕ) (s : Columns) : Type 0 where
  pub long : (length s.mixed ≡ 8) × (length s.odd ≡ 8)
  pub long_above : (length s.mixed_above ≡ 8) × (length s.odd_above ≡ 8)
  pub column : (j : ℕ) → j < 16 → Column half r j (once_at s j) (often_at s j)

-- no column is more than 16 rows give
pub record Small (s : Columns) : Type 0 where
  pub low : (j : ℕ) → j < 16 → once_at s j ≤ 4080
  pub high : (j : ℕ) → j < 16 → often_at s j ≤ 30600

-- ---- both halves together
-- the same number mod 255: x less 255 times x / 256
abbrev pub fold_of : ℕ → ℕ
fold_of x = x % 256 + x / 256

-- what a column adds to the second sum, mod 255: of its bytes, `once` is the sum over both halves, `often` that with each counted as often as rows follow, and
-- `second` the sum over the second half, where each counts once less
unfoldable pub term_of : ℕ → ℕ → ℕ → ℕ → ℕ
term_of once often w second = 16 * fold_of often + w * fold_of once + (4080 - second)

-- what column j adds to the first sum, and to the second, mod 255
abbrev pub column_once : Columns → Columns → ℕ → ℕ
column_once one two j = once_at one j + once_at two j

abbrev pub column_term : Columns → Columns → ℕ → ℕ
column_term one two j = term_of (column_once one two j) (often_at one j + often_at two j) (15 - j) (once_at two j)

-- no element is more than the terms of two columns give
abbrev pub Low : List ℕ → Type 0
Low l = (i : ℕ) → i < 8 → slice_index l i ≤ 39780

-- what the columns of lane i add
pub record TermsOf (one two : Columns) (t : LaneTerms) : Type 0 where
  pub all : (i : ℕ) → i < 8 → slice_index t.once i ≡ column_once one two (2 * i) + column_once one two (2 * i + 1)
  pub counted : (i : ℕ) → i < 8 → slice_index t.often i ≡ column_term one two (2 * i) + column_term one two (2 * i + 1)
  pub low_once : Low t.once
  pub low_often : Low t.often

-- the sums over the columns
pub record JoinedOf (one two : Columns) (once often : ℕ) : Type 0 where
  pub all : once ≡ sum (column_once one two) 16
  pub counted : often ≡ sum (column_term one two) 16
