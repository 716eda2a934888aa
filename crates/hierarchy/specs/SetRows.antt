-- Sets of groups in 256 rows: the set at place b is in the rows b, b + 64, b + 128 and b + 192, a word in each. Turned over, there is one row
-- for each group, in which bit b tells whether the group is in the set at place b. Assumes nothing.
use Rattle.std.specs.Prelude.{ℕ, ◌+◌, ◌<◌, ◌≡◌, Bool, true, List, [], ◌∷◌, length, get_or}
use Rattle.sets.specs.Sets.{has, within, all_below}
use Rattle.sets.specs.Words.{joined}
use Rattle.sets.specs.Groups.{places_of}
use Rattle.records.specs.declared.users.GroupSets.{GroupSets}
use Rattle.hierarchy.specs.Forest.{Forest, table_room}
use Rattle.hierarchy.specs.Below.{below_sets}

-- the set at place b
unfoldable pub set_at : List ℕ → ℕ → ℕ
set_at rows b = joined (get_or rows b 0 ∷ get_or rows (b + 64) 0 ∷ get_or rows (b + 128) 0 ∷ get_or rows (b + 192) 0 ∷ [])

-- the set s is put at place b, and the others stay
pub record SetPut (b s : ℕ) (before after : List ℕ) : Type 0 where
  pub size : length after ≡ table_room
  pub here : set_at after b ≡ s
  pub other : (c : ℕ) → c < 64 → (c ≡ b → ⊥) → set_at after c ≡ set_at before c

-- ---- the sets of sixteen users: user i has the read groups at place i, the write groups at place 16 + i, the default groups at place 32 + i and the
-- row groups at place 48 + i
-- the sets of user i among each other
abbrev pub rows_rule : Forest → List ℕ → ℕ → Bool
rows_rule f rows i = below_sets f (set_at rows i) (set_at rows (16 + i)) (set_at rows (32 + i)) (set_at rows (48 + i))

-- every set has groups below `count` only
abbrev pub RowsFit : ℕ → List ℕ → Type 0
RowsFit count rows = (b : ℕ) → b < 64 → within (set_at rows b) (all_below count) ≡ true

-- the sets of user i are put, and those of the others stay
pub record UserPut (i : ℕ) (sets : GroupSets) (before after : List ℕ) : Type 0 where
  pub size : length after ≡ table_room
  pub read : set_at after i ≡ places_of sets.read
  pub write : set_at after (16 + i) ≡ places_of sets.write
  pub default : set_at after (32 + i) ≡ places_of sets.default
  pub row : set_at after (48 + i) ≡ places_of sets.row
  pub other :
      (b : ℕ) → b < 64 → (b ≡ i → ⊥) → (b ≡ 16 + i → ⊥) → (b ≡ 32 + i → ⊥) → (b ≡ 48 + i → ⊥) → set_at after b ≡ set_at before b

-- ---- turned over
-- the first n rows are those of groups
pub record Turned (n : ℕ) (before after : List ℕ) : Type 0 where
  pub size : length after ≡ table_room
  pub bits : (b g : ℕ) → b < 64 → g < n → has (get_or after g 0) b ≡ has (set_at before b) g
