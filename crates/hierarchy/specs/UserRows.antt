-- The sets of users, one by one and those of sixteen in rows, from the user at place `from` on. Where there is no user, there are empty sets. `all`
-- are all groups.
use Rattle.std.specs.Prelude.{ℕ, ◌+◌, ◌^◌, ◌≤◌, ◌<◌, ◌≡◌, Bool, true, cond, ◌&&◌, List, ltb, length}
use Rattle.sets.specs.Sets.{none, union, intersection, within}
use Rattle.sets.specs.Groups.{places_of}
use Rattle.header.specs.declared.edition.Edition.{Edition}
use Rattle.records.specs.declared.users.GroupSets.{GroupSets}
use Rattle.records.specs.Fields.{read_groups, write_groups, default_groups, row_groups}
use Rattle.hierarchy.specs.declared.users.Users.{Users}
use Rattle.hierarchy.specs.Forest.{table_room}
use Rattle.hierarchy.specs.Users.{user_in}
use Rattle.hierarchy.specs.SetRows.{set_at}

-- one of the four sets of the user at place u, by the field of the record
unfoldable pub user_set : Users → List ℕ → (Edition → List ℕ → ℕ) → ℕ → ℕ
user_set l bytes field u = cond (ltb u l.count) (field l.edition (user_in l bytes u)) none

-- the four values are the sets of the user at place u, empty where there is none
pub record SetsAre (l : Users) (bytes : List ℕ) (u : ℕ) (sets : GroupSets) : Type 0 where
  pub read : places_of sets.read ≡ user_set l bytes read_groups u
  pub write : places_of sets.write ≡ user_set l bytes write_groups u
  pub default : places_of sets.default ≡ user_set l bytes default_groups u
  pub row : places_of sets.row ≡ user_set l bytes row_groups u

-- what tells the sets of the user at each place: `tells u sets` says that `sets` may be told of the one at place u
abbrev pub Reads : (ℕ → GroupSets → Type 0) → Users → List ℕ → Type 0
Reads tells l bytes = (u : ℕ) → u < 2 ^ 64 → (sets : GroupSets) → tells u sets → SetsAre l bytes u sets

-- the four values are empty sets
pub record NoSets (sets : GroupSets) : Type 0 where
  pub read : places_of sets.read ≡ none
  pub write : places_of sets.write ≡ none
  pub default : places_of sets.default ≡ none
  pub row : places_of sets.row ≡ none

-- ---- sets that lie within one another as they stand, and have groups of `all` only
unfoldable pub plain_sets : (all read write default row : ℕ) → Bool
plain_sets all read write default row = within (union write default) read && within row (intersection default write) && within read all

-- those of the user at place u do
abbrev pub plain_rule : ℕ → Users → List ℕ → ℕ → Bool
plain_rule all l bytes u =
    plain_sets all (user_set l bytes read_groups u) (user_set l bytes write_groups u) (user_set l bytes default_groups u) (user_set l bytes row_groups u)

-- those of the users from `from` up to `end` do
pub record PlainUpto (all : ℕ) (l : Users) (bytes : List ℕ) (from end : ℕ) : Type 0 where
  pub after : from ≤ end
  pub plain : (u : ℕ) → from ≤ u → u < end → plain_rule all l bytes u ≡ true

-- ---- in rows
-- the set at place b is s, and has groups of `all` only
abbrev pub HoldsSet : ℕ → List ℕ → (b s : ℕ) → Type 0
HoldsSet all rows b s = (set_at rows b ≡ s) × (within (set_at rows b) all ≡ true)

-- the rows hold the sets of the n users from `from` on, and these have groups of `all` only
pub record Filled (all : ℕ) (l : Users) (bytes : List ℕ) (from n : ℕ) (rows : List ℕ) : Type 0 where
  pub size : length rows ≡ table_room
  pub read : (i : ℕ) → i < n → HoldsSet all rows i (user_set l bytes read_groups (from + i))
  pub write : (i : ℕ) → i < n → HoldsSet all rows (16 + i) (user_set l bytes write_groups (from + i))
  pub default : (i : ℕ) → i < n → HoldsSet all rows (32 + i) (user_set l bytes default_groups (from + i))
  pub row : (i : ℕ) → i < n → HoldsSet all rows (48 + i) (user_set l bytes row_groups (from + i))
