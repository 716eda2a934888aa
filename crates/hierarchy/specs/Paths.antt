-- The walk from a group along its parents, by which the groups get their places in the order.
use Rattle.std.specs.Prelude.{ℕ, zero, suc, ◌+◌, ◌-◌, ◌≤◌, ◌<◌, ◌≡◌, List, get_or}
use Rattle.hierarchy.specs.Forest.{first_ring_in, table_room, parent_by, forest_by, order_at, Ordered}

-- the n-th parent of g
unfoldable pub ancestor : (ℕ → ℕ) → ℕ → ℕ → ℕ
ancestor parent zero g = g
ancestor parent (suc n) g = parent (ancestor parent n g)

-- `places` has 0 for a group that has no place yet, else one more than its place. The walk from g passes n groups that have none, and then
-- it comes to one that has, or to none; where n is more than there are groups, it goes on.
pub record Passes (count : ℕ) (parent : ℕ → ℕ) (places : List ℕ) (g n : ℕ) : Type 0 where
  pub upto : n ≤ count + 1
  pub free : (k : ℕ) → k < n → (ancestor parent k g < count) × (get_or places (ancestor parent k g) 0 ≡ 0)
  pub stop : n ≤ count → ancestor parent n g < count → 0 < get_or places (ancestor parent n g) 0

-- the n groups of a walk from g differ
pub record Differ (room : ℕ) (parent : ℕ → ℕ) (g n : ℕ) : Type 0 where
  pub inside : (k : ℕ) → k < n → ancestor parent k g < room
  pub differ : (j k : ℕ) → j < n → k < n → ancestor parent j g ≡ ancestor parent k g → j ≡ k

-- the groups of a walk from g have the places from `from` up to `end`, g the last; the table and the places were `before` and `were`
pub record Placed (parent : ℕ → ℕ) (g from end : ℕ) (before were table places : List ℕ) : Type 0 where
  pub parents : (p : ℕ) → p < table_room → parent_by table p ≡ parent_by before p
  pub lower : (i : ℕ) → i < from → order_at table i ≡ order_at before i
  pub order : (i : ℕ) → from ≤ i → i < end → order_at table i ≡ ancestor parent (end - 1 - i) g
  pub place : (i : ℕ) → from ≤ i → i < end → get_or places (ancestor parent (end - 1 - i) g) 0 ≡ i + 1
  pub other : (p : ℕ) → ((i : ℕ) → from ≤ i → i < end → p ≡ ancestor parent (end - 1 - i) g → ⊥) → get_or places p 0 ≡ get_or were p 0

-- of a search for the lowest group whose parents never end, which orders the groups: r is that group, the table keeps the parents, and
-- where there is no such group it orders them
pub record OrderFound (count : ℕ) (before table : List ℕ) (r : ℕ) : Type 0 where
  pub ring : r ≡ first_ring_in (forest_by count before)
  pub parents : (p : ℕ) → p < table_room → parent_by table p ≡ parent_by before p
  pub ordered : count ≤ r → Ordered count table
