-- Sets of places. A set is a natural number, and place p is in it exactly if its binary digit p is 1. So a machine word is
-- a set, `&` of two words is their intersection, and every law holds at any width.
--
-- The names: `has` is membership; `none`, `one p`, `all_below n` and `collect f n` are sets; `union`, `intersection` and
-- `difference` make a set of two; `within` (inclusion), `meets` (a common place) and `empty` are tests; `Lowest` says which place
-- is the first. A law is named by the operation and then the fact: `union-has`, `within-trans`, `difference_Below`. Assumes nothing.
use Rattle.std.specs.Prelude.{◌≡◌, Bool, true, false, not, cond, ℕ, zero, suc, ◌+◌, ◌-◌, ◌/◌, ◌%◌, ◌^◌, ◌≤◌, ◌<◌, eqb}
use Rattle.std.specs.Int.Bits.{bit_and, bit_or}

-- place p is in s
unfoldable pub has : ℕ → ℕ → Bool
has s p = eqb (s / 2 ^ p % 2) 1

abbrev pub none : ℕ
none = 0

-- the set of p alone
abbrev pub one : ℕ → ℕ
one p = 2 ^ p

-- the places below n
unfoldable pub all_below : ℕ → ℕ
all_below n = 2 ^ n - 1

abbrev pub union : ℕ → ℕ → ℕ
union = bit_or

abbrev pub intersection : ℕ → ℕ → ℕ
intersection = bit_and

-- the places of a that are not in b
unfoldable pub difference : ℕ → ℕ → ℕ
difference a b = a - bit_and a b

-- every place of a is in b
unfoldable pub within : ℕ → ℕ → Bool
within a b = eqb (bit_and a b) a

-- a and b have a place in common
unfoldable pub meets : ℕ → ℕ → Bool
meets a b = not (eqb (bit_and a b) 0)

-- s has no place
unfoldable pub empty : ℕ → Bool
empty s = eqb s 0

-- the places below n at which f is true
unfoldable pub collect : (ℕ → Bool) → ℕ → ℕ
collect f zero = 0
collect f (suc n) = collect f n + cond (f n) (2 ^ n) 0

-- p is the lowest place of s below n; p is n where s has no place there
pub record Lowest (n s p : ℕ) : Type 0 where
  pub upto : p ≤ n
  pub here : p < n → has s p ≡ true
  pub lower : (q : ℕ) → q < p → has s q ≡ false
