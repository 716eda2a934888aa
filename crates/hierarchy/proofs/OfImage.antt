-- The forest and the rules of an image, by its own records and by a table that holds the parents of its groups. Assumes nothing.
use Prim.Native.Nat.{ℕ, ◌+◌, ◌≤◌, ◌<◌}
use mathlib.Core.Path.{◌≡◌, ap}
use mathlib.Core.List.{List}
use native.Mathlib.Omega.{arith}
use Rattle.fields.specs.Scan.{first_bad}
use Rattle.header.specs.declared.layout.Kind.TheVariants.{Component, User}
use Rattle.header.specs.declared.profile.Profile.{Profile}
use Rattle.header.specs.declared.profile.Profile.TheVariants.{Tree}
use Rattle.header.specs.Layout.{edition_of, by_profile, groups, users, components, counts_of, class_first, component_record, user_record, records_of}
use Rattle.header.specs.Limits.{Counted}
use Rattle.header.proofs.Inside.{records-count, record_of}
use Rattle.records.specs.Fields.{parent_of}
use Rattle.records.specs.Rules.{record_in}
use Rattle.hierarchy.specs.Forest.{table_room, forest_by, OrderedBy}
use Rattle.hierarchy.specs.Below.{parent_in, first_bad_sets, forest_of, parent, group_sets_rule, first_bad_below}
use Rattle.hierarchy.specs.Below.{AllEnd, Parents, Tabled, RingFound}
use Rattle.hierarchy.specs.Paths.{OrderFound}
use Rattle.hierarchy.proofs.Room.{groups-table}
use Rattle.hierarchy.proofs.Alike.{Alike, table-alike, tabled-by}
use Rattle.hierarchy.proofs.Rings.{ring-none, ring-past}
use Rattle.hierarchy.proofs.OrderTurns.{found-ring, found-parents, found-ordered}

-- ---- its records
pub parent-record : (im : List ℕ) (g : ℕ) → g < groups im
    → parent im g ≡ parent_of (edition_of im) (component_record im (class_first (counts_of im) 3 + g))
unfolding parent_in class_first components
parent-record im g h = ap (parent_of (edition_of im)) (record_of im Component (class_first (counts_of im) 3 + g) (omega arith))

pub user-record : (im : List ℕ) (u : ℕ) → u < users im → record_in (records_of im User) u ≡ user_record im u
user-record im u h = record_of im User u h

-- its users are all asked
pub first-bad-users : (im : List ℕ) → first_bad_below im ≡ first_bad (group_sets_rule im) (users im) 0
unfolding first_bad_sets
first-bad-users im = ap (λ (n : ℕ). first_bad (group_sets_rule im) n 0) (records-count im User)

-- ---- what holds in the profile with a tree of groups. `rw` with the profile would change it in the forest's counts too
pub in_tree : {A : Type 0} (profile : Profile) (tree release : A) → profile ≡ Tree → tree ≡ by_profile profile tree release
in_tree profile tree release e = rw e

-- ---- a table that holds the parents of its groups, whose number the code has as `count`
module _ (im table : List ℕ) (count : ℕ) (is : count ≡ groups im) where
  pub tabled-alike : Parents im table → Alike (forest_of im) (forest_by count table)
  tabled-alike parents = table-alike (forest_of im) count table is parents

  pub tabled-fits : Counted im → count ≤ table_room
  tabled-fits c = omega (arith, groups-table im c)

  pub tabled-ordered : Counted im → Tabled im table → OrderedBy count table
  tabled-ordered c tabled = tabled-by (forest_of im) count table is (tabled-fits c) tabled

-- the order has been put behind the parents
pub ring-found : (im before table : List ℕ) (count r : ℕ) → count ≡ groups im → Counted im → Parents im before → OrderFound count before table r
    → RingFound im table r
ring-found im before table count r is n parents found =
    let fits = tabled-fits im before count is n in
    let ring = found-ring (forest_of im) before table count r is fits parents found in
    record {
      ring = ring;
      filled =
          λ all. (
            found-parents (forest_of im) before table count r is fits parents found,
            ring-none (forest_of im) (omega (arith, ring)),
            found-ordered (forest_of im) before table count r is fits parents found all,
          );
    }

-- where the parents of every group end, the table is filled
pub all-filled : (im table : List ℕ) (r : ℕ) → AllEnd im → RingFound im table r → Tabled im table
all-filled im table r all found = found.filled (omega (arith, found.ring, ring-past (forest_of im) all))
