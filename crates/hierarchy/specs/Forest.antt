-- A forest: groups and their parents. Rings of parents, ancestors and what lies below a set are said of any forest; an image has one, and
-- so have component records that no image holds yet.
use Rattle.std.specs.Prelude.{ℕ, zero, suc, ◌+◌, ◌*◌, ◌≤◌, ◌<◌, ◌≡◌, Bool, true, false, cond, not, ◌||◌, List, ltb}
use Rattle.fields.specs.Bytes.{byte_at, number2}
use Rattle.fields.specs.Scan.{first_bad}
use Rattle.sets.specs.Sets.{none, one, union, meets, collect}

-- how many groups there are, and the parent's place of each; a parent's place that is no group's is none
pub record Forest : Type 0 where
  pub count : ℕ
  pub parent : ℕ → ℕ

-- group g has a parent
unfoldable pub has_parent_in : Forest → ℕ → Bool
has_parent_in f g = ltb (f.parent g) f.count

-- following parents from g reaches "none" within n steps
unfoldable pub ends_within_in : Forest → ℕ → ℕ → Bool
ends_within_in f zero g = false
ends_within_in f (suc n) g = let rest = ends_within_in f n (f.parent g) in not (has_parent_in f g) || rest

-- following parents from g reaches "none": it takes no more steps than there are groups
unfoldable pub ends_in : Forest → ℕ → Bool
ends_in f g = ends_within_in f f.count g

-- the parents of every group end
abbrev pub AllEndIn : Forest → Type 0
AllEndIn f = (g : ℕ) → g < f.count → ends_in f g ≡ true

-- the lowest group whose parents never end; the number of groups where there is none
unfoldable pub first_ring_in : Forest → ℕ
first_ring_in f = first_bad (ends_in f) f.count 0

-- p is g or an ancestor of g, at any distance
pub data AboveIn (f : Forest) : ℕ → ℕ → Type 0 where
  here : {g : ℕ} → AboveIn f g g
  up : {g p : ℕ} → has_parent_in f g ≡ true → AboveIn f (f.parent g) p → AboveIn f g p

-- g and those of its ancestors that n steps meet
unfoldable pub lineage_within_in : Forest → ℕ → ℕ → ℕ
lineage_within_in f zero g = none
lineage_within_in f (suc n) g = let rest = lineage_within_in f n (f.parent g) in union (one g) (cond (has_parent_in f g) rest none)

-- g and all its ancestors, at any distance
unfoldable pub lineage_in : Forest → ℕ → ℕ
lineage_in f g = lineage_within_in f f.count g

-- below(s): s with every group that has an ancestor, at any distance, in s. (s names groups that exist.)
unfoldable pub below_in : Forest → ℕ → ℕ
below_in f s = collect (λ g. meets (lineage_in f g) s) f.count

-- ---- a table of parents, and behind them an order of the groups
-- how many groups it has room for
abbrev pub table_room : ℕ
table_room = 256

-- how many bytes it has: two for each parent, and one for each place of the order
abbrev pub table_length : ℕ
table_length = 768

-- the parent's place that the table holds for g
abbrev pub parent_by : List ℕ → ℕ → ℕ
parent_by table g = number2 table (2 * g)

-- it holds the parent's place of every group
abbrev pub ParentsIn : Forest → List ℕ → Type 0
ParentsIn f table = (g : ℕ) → g < f.count → parent_by table g ≡ f.parent g

-- the forest of `count` groups whose parents it holds
abbrev pub forest_by : ℕ → List ℕ → Forest
forest_by count table = record { count = count; parent = parent_by table }

-- the group at place i of the order
abbrev pub order_at : List ℕ → ℕ → ℕ
order_at table i = byte_at table (512 + i)

-- the table orders `count` groups: each stands at one of the first `count` places, and its parent, where it has one, at a lower place
pub record Ordered (count : ℕ) (table : List ℕ) : Type 0 where
  pub group : (i : ℕ) → i < count → order_at table i < count
  pub once : (i j : ℕ) → i < count → j < count → order_at table i ≡ order_at table j → i ≡ j
  pub every : (g : ℕ) → g < count → (i : ℕ) × ((i < count) × (order_at table i ≡ g))
  pub after : (i : ℕ) → i < count → parent_by table (order_at table i) < count
      → (j : ℕ) × ((j < i) × (order_at table j ≡ parent_by table (order_at table i)))

-- the table has room for so many groups, the parents of each end, and it orders them
abbrev pub OrderedBy : ℕ → List ℕ → Type 0
OrderedBy count table = (count ≤ table_room) × AllEndIn (forest_by count table) × Ordered count table

-- the table holds the parents of the forest's groups, which all end, and orders the groups
abbrev pub TabledIn : Forest → List ℕ → Type 0
TabledIn f table = ParentsIn f table × AllEndIn f × Ordered f.count table
