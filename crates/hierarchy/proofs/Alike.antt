-- Two forests with as many groups, in which the same groups have a parent, and the same one, have the same rings, the same ancestors of
-- each group, and the same groups below a set. A table that holds the parents of a forest's groups is such a forest. Assumes nothing.
use Prim.Native.Nat.{ℕ, zero, suc, ◌≤◌, ◌<◌}
use mathlib.Core.Path.{◌≡◌, refl, sym, ap, ap₂, ◌∙◌, subst}
use mathlib.Core.Bool.{Bool, true, false, cond, not, ◌||◌}
use mathlib.Core.List.{List}
use native.Mathlib.Omega.{arith}
use lib.Dec.{ltb}
use Rattle.fields.specs.Scan.{first_bad}
use Rattle.fields.proofs.Scan.{bad-same-on}
use Rattle.sets.specs.Sets.{none, one, union, meets, collect}
use Rattle.hierarchy.specs.Forest.{Forest, has_parent_in, ends_within_in, ends_in, AllEndIn, first_ring_in, lineage_within_in, lineage_in, below_in}
use Rattle.hierarchy.specs.Forest.{table_room, ParentsIn, forest_by, Ordered, OrderedBy, TabledIn}
use Rattle.hierarchy.specs.Below.{below_sets}
use Rattle.hierarchy.proofs.Lineage.{parent-below}

pub record Alike (f new : Forest) : Type 0 where
  pub count : new.count ≡ f.count
  pub parents : (g : ℕ) → g < f.count → has_parent_in new g ≡ has_parent_in f g
  pub parent_same : (g : ℕ) → g < f.count → has_parent_in f g ≡ true → new.parent g ≡ f.parent g

pub alike-back : (f new : Forest) → Alike f new → Alike new f
alike-back f new same =
    record {
      count = sym same.count;
      parents = λ g h. sym (same.parents g (group g h));
      parent_same = λ g h e. sym (same.parent_same g (group g h) (sym (same.parents g (group g h)) ∙ e));
    }
  where
    group : (g : ℕ) → g < new.count → g < f.count
    group g h = omega (arith, same.count)

-- two tests that are the same at each place below n collect the same places
collect-same : (f g : ℕ → Bool) (n : ℕ) → ((p : ℕ) → p < n → f p ≡ g p) → collect f n ≡ collect g n
unfolding collect
collect-same f g zero h = refl
collect-same f g (suc n) h = rw (h n (omega arith), collect-same f g n (λ p l. h p (omega arith)))

module _ (f new : Forest) (same : Alike f new) where
  -- ---- following parents
  ends-within : (n g : ℕ) → g < f.count → ends_within_in new n g ≡ ends_within_in f n g
  unfolding ends_within_in
  ends-within zero g h = refl
  ends-within (suc n) g h = at (has_parent_in f g) refl (ends-within n (f.parent g))
    where
      at : (t : Bool) → has_parent_in f g ≡ t
          → (f.parent g < f.count → ends_within_in new n (f.parent g) ≡ ends_within_in f n (f.parent g))
          → (not (has_parent_in new g) || ends_within_in new n (new.parent g)) ≡ (not (has_parent_in f g) || ends_within_in f n (f.parent g))
      at true e later = rw (same.parents g h, e, same.parent_same g h e) (later (parent-below f g e))
      at false e later = rw (same.parents g h, e)

  pub ends-alike : (g : ℕ) → g < f.count → ends_in new g ≡ ends_in f g
  unfolding ends_in
  ends-alike g h = ap (λ (n : ℕ). ends_within_in new n g) same.count ∙ ends-within f.count g h

  pub all-end-alike : AllEndIn f → AllEndIn new
  all-end-alike all g h =
      let l : g < f.count = omega (arith, same.count) in
      ends-alike g l ∙ all g l

  pub first-ring-alike : first_ring_in new ≡ first_ring_in f
  unfolding first_ring_in
  first-ring-alike =
      ap (λ (n : ℕ). first_bad (ends_in new) n 0) same.count
      ∙ bad-same-on (ends_in new) (ends_in f) f.count 0 (λ g low high. ends-alike g (omega (arith, high)))

  lineage-within : (n g : ℕ) → g < f.count → lineage_within_in new n g ≡ lineage_within_in f n g
  unfolding lineage_within_in
  lineage-within zero g h = refl
  lineage-within (suc n) g h = ap (union (one g)) (at (has_parent_in f g) refl (lineage-within n (f.parent g)))
    where
      at : (t : Bool) → has_parent_in f g ≡ t
          → (f.parent g < f.count → lineage_within_in new n (f.parent g) ≡ lineage_within_in f n (f.parent g))
          → cond (has_parent_in new g) (lineage_within_in new n (new.parent g)) none ≡ cond (has_parent_in f g) (lineage_within_in f n (f.parent g)) none
      at true e later = rw (same.parents g h, e, same.parent_same g h e) (later (parent-below f g e))
      at false e later = rw (same.parents g h, e)

  pub lineage-alike : (g : ℕ) → g < f.count → lineage_in new g ≡ lineage_in f g
  unfolding lineage_in
  lineage-alike g h = ap (λ (n : ℕ). lineage_within_in new n g) same.count ∙ lineage-within f.count g h

  -- ---- what lies below a set
  pub below_alike : (s : ℕ) → below_in new s ≡ below_in f s
  unfolding below_in
  below_alike s =
      ap (collect (λ g. meets (lineage_in new g) s)) same.count
      ∙ collect-same (λ g. meets (lineage_in new g) s) (λ g. meets (lineage_in f g) s) f.count
      (λ g h. ap (λ (l : ℕ). meets l s) (lineage-alike g h))

  -- so a user's sets of groups lie below one another as they do
  pub sets-alike : (read write default row : ℕ) → below_sets new read write default row ≡ below_sets f read write default row
  unfolding below_sets
  sets-alike read write default row = rw (below_alike read, below_alike default, below_alike write)

-- ---- the forest of a table that holds the parents
pub table-alike : (f : Forest) (count : ℕ) (table : List ℕ) → count ≡ f.count → ParentsIn f table → Alike f (forest_by count table)
unfolding has_parent_in
table-alike f count table e parents =
    record { count = e; parents = λ g h. ap₂ ltb (parents g h) e; parent_same = λ g h k. parents g h }

-- where it also orders them, code can go by it
pub tabled-by : (f : Forest) (count : ℕ) (table : List ℕ) → count ≡ f.count → count ≤ table_room → TabledIn f table → OrderedBy count table
tabled-by f count table e fits tabled = (
  fits,
  all-end-alike f (forest_by count table) (table-alike f count table e tabled.0) tabled.1,
  subst (λ (n : ℕ). Ordered n table) (sym e) tabled.2,
)
