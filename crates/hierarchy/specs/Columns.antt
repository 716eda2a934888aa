-- The sets of groups of sixteen users at once, turned over: for each group one row, in which each bit says whether it is in one of the sets. Bit i is
-- for the read groups of user i, bit 16 + i for the write groups, bit 32 + i for the default groups and bit 48 + i for the row groups. Assumes
-- nothing.
use Rattle.std.specs.Prelude.{ℕ, ◌+◌, ◌/◌, ◌%◌, ◌^◌, ◌<◌, ◌≡◌, Bool, true, false, cond, not, ◌&&◌, ◌||◌, List, eqb, ltb, get_or}
use Rattle.sets.specs.Sets.{has, union, intersection, difference, collect}
use Rattle.hierarchy.specs.Forest.{Forest, below_in}
use Rattle.hierarchy.specs.Below.{below_sets}

-- the groups below `count` whose row has bit b
unfoldable pub column : ℕ → List ℕ → ℕ → ℕ
column count rows b = collect (λ g. has (get_or rows g 0) b) count

-- the sets of user i among each other
abbrev pub columns_rule : Forest → List ℕ → ℕ → Bool
columns_rule f rows i =
    below_sets f (column f.count rows i) (column f.count rows (16 + i)) (column f.count rows (32 + i)) (column f.count rows (48 + i))

-- the bits for read and for default groups: those of which the set sixteen bits above has to lie below them
unfoldable pub asked : ℕ
asked = collect (λ b. eqb (b / 16 % 2) 0) 64

-- Of one group, with its row x and the bits `below` of those sets which it lies below: which sets it had to lie below and does not. Write groups
-- have to lie below the read ones, sixteen bits below them, and so row groups below the default ones. Default groups have to lie below the read ones,
-- thirty-two bits below them, and so row groups below the write ones.
unfoldable pub lacking : (x below : ℕ) → ℕ
lacking x below = difference (union (intersection (x / 2 ^ 16) asked) (x / 2 ^ 32)) below

-- the row of the parent p; no bit where there is none
unfoldable pub row_above : (count : ℕ) → List ℕ → ℕ → ℕ
row_above count rows p = cond (ltb p count) (get_or rows p 0) 0

-- bit b of what group g lacks
unfoldable pub lacks : Forest → List ℕ → (b g : ℕ) → Bool
lacks f rows b g =
    (has (get_or rows g 0) (16 + b) && has asked b || has (get_or rows g 0) (32 + b)) && not (has (below_in f (column f.count rows b)) g)

-- r has the bits that some group lacks
pub record Lacked (f : Forest) (rows : List ℕ) (r : ℕ) : Type 0 where
  pub clear : (b g : ℕ) → has r b ≡ false → g < f.count → lacks f rows b g ≡ false
  pub found : (b : ℕ) → has r b ≡ true → (g : ℕ) × ((g < f.count) × (lacks f rows b g ≡ true))
