-- The loop that orders the groups and looks for the lowest whose parents never end: its start, its turns and its end. Assumes nothing.
use Prim.Native.Nat.{ℕ, zero, suc, ◌+◌, ◌-◌, ◌≤◌, ◌<◌, zero-le}
use mathlib.Core.Path.{◌≡◌, refl, sym, ap, ◌∙◌, subst}
use mathlib.Core.Bool.{Bool, true, false, true≢false}
use mathlib.Core.List.{List}
use mathlib.Core.Logic.{⊎_elim}
use native.Mathlib.Nat.{sub-zero}
use native.Mathlib.Numerals.{one-add}
use native.Mathlib.Omega.{arith}
use borrow.Author.Count.{below_more}
use borrow.Author.Tests.{ltb-true, ltb-false}
use lib.Dec.{ltb}
use lib.ListN.{length, get_or}
use Rattle.fields.specs.Scan.{first_bad}
use Rattle.fields.proofs.Scan.{loop-good, loop-bad, loop-end}
use Rattle.hierarchy.specs.Forest.{Forest, has_parent_in, ends_within_in, ends_in, here, up, first_ring_in}
use Rattle.hierarchy.specs.Forest.{table_room, table_length, parent_by, ParentsIn, forest_by, order_at, Ordered}
use Rattle.hierarchy.specs.Paths.{ancestor, Passes, Placed, OrderFound}
use Rattle.hierarchy.proofs.Lineage.{ends-none, ends-parent}
use Rattle.hierarchy.proofs.Walks.{too_many, top-ends, above-ends}
use Rattle.hierarchy.proofs.Alike.{Alike, ends-alike, first-ring-alike, table-alike}
use Rattle.hierarchy.proofs.Ordering.{ancestor-after, Placing, placing-start, placing-next, placed_by, placed-still, placed-here}

-- ---- what a walk tells of the group that begins it
module _ (f : Forest) where
  -- the parents of a group end where those of its parent do
  ends_by : (p : ℕ) → p < f.count → (f.parent p < f.count → ends_in f (f.parent p) ≡ true) → ends_in f p ≡ true
  unfolding has_parent_in
  ends_by p l rest = at (has_parent_in f p) refl
    where
      at : (t : Bool) → has_parent_in f p ≡ t → ends_in f p ≡ true
      at true e = above-ends f p (f.parent p) l (up e here) (rest (ltb-true (f.parent p) f.count e))
      at false e = top-ends f p p l here e

  -- following parents to the end comes to a place that is no group
  ends-short : (m g : ℕ) → ends_within_in f m g ≡ true → (k : ℕ) × ((k < m) × (f.count ≤ ancestor f.parent (suc k) g))
  unfolding ancestor has_parent_in
  ends-short zero g h = absurd (true≢false (sym h ∙ ends-none f g))
  ends-short (suc m) g h = at (has_parent_in f g) refl (ends-short m (f.parent g))
    where
      at : (t : Bool) → has_parent_in f g ≡ t
          → (ends_within_in f m (f.parent g) ≡ true → (k : ℕ) × ((k < m) × (f.count ≤ ancestor f.parent (suc k) (f.parent g))))
          → (k : ℕ) × ((k < suc m) × (f.count ≤ ancestor f.parent (suc k) g))
      at true e later =
          let q = later (ends-parent f m g h e) in
          let same : ancestor f.parent (suc (suc q.0)) g ≡ ancestor f.parent (suc q.0) (f.parent g) =
          ap (λ (n : ℕ). ancestor f.parent n g) (sym (one-add (suc q.0))) ∙ ancestor-after f.parent 1 (suc q.0) g in
          (suc q.0, (omega (arith, q.1.0), rw same q.1.1))
      at false e later = (0, (omega arith, ltb-false (f.parent g) f.count e))

  module _ (places : List ℕ) (g n : ℕ) (walk : Passes f.count f.parent places g n) where
    -- it never comes to an end
    pub walk-ring : f.count < n → ends_in f g ≡ false
    unfolding ends_in
    walk-ring l = at (ends_in f g) refl
      where
        at : (t : Bool) → ends_in f g ≡ t → t ≡ false
        at true e =
            let q = ends-short f.count g e in
            let inside = (walk.free (suc q.0) (omega (arith, q.1.0))).0 in
            absurd (omega (arith, q.1.1))
        at false e = refl

    -- it comes to none, or to a group that has a place: so its groups' parents end
    pub walk_ends : n ≤ f.count → ((p : ℕ) → p < f.count → 0 < get_or places p 0 → ends_in f p ≡ true)
        → (m k : ℕ) → k + m ≡ n → ancestor f.parent k g < f.count → ends_in f (ancestor f.parent k g) ≡ true
    unfolding ancestor
    walk_ends ends sure zero k is l =
        let last : n ≡ k = omega arith in
        sure (ancestor f.parent k g) l
        (subst (λ (m : ℕ). ancestor f.parent m g < f.count → 0 < get_or places (ancestor f.parent m g) 0) last (walk.stop ends) l)
    walk_ends ends sure (suc m) k is l =
        ends_by (ancestor f.parent k g) l (λ p. walk_ends ends sure m (suc k) (omega arith) p)

-- ---- the loop: the groups below g have places, with those of their walks
pub record Turn (count : ℕ) (before table places : List ℕ) (end g : ℕ) : Type 0 where
  pub upto : g ≤ count
  pub long : length table ≡ table_length
  pub room : length places ≡ table_room
  pub parents : (p : ℕ) → p < table_room → parent_by table p ≡ parent_by before p
  pub placing : Placing count (λ p. parent_by table p) table places end
  pub ends : (p : ℕ) → p < count → 0 < get_or places p 0 → ends_in (forest_by count before) p ≡ true
  pub reached : (p : ℕ) → p < g → 0 < get_or places p 0
  pub rest : first_bad (ends_in (forest_by count before)) (count - g) g ≡ first_ring_in (forest_by count before)

pub turn-start : (count : ℕ) (table places : List ℕ) → length table ≡ table_length → length places ≡ table_room
    → ((p : ℕ) → p < count → get_or places p 0 ≡ 0) → Turn count table table places 0 0
unfolding first_ring_in
turn-start count table places long room none =
    record {
      upto = zero-le;
      long = long;
      room = room;
      parents = λ p h. refl;
      placing = placing-start count (λ p. parent_by table p) table places none;
      ends = λ p l h. absurd (omega (arith, none p l));
      reached = λ p h. absurd (omega arith);
      rest = rw sub-zero;
    }

module _ (count : ℕ) (before table places : List ℕ) (end g n : ℕ) (fits : count ≤ table_room) (turn : Turn count before table places end g)
    (group : g < count) (walk : Passes count (λ p. parent_by table p) places g n) where
  same : Alike (forest_by count before) (forest_by count table)
  same = table-alike (forest_by count before) count table refl (λ p l. turn.parents p (omega arith))

  as_before : (p : ℕ) → p < count → ends_in (forest_by count table) p ≡ ends_in (forest_by count before) p
  as_before p l = ends-alike (forest_by count before) (forest_by count table) same p l

  -- a walk that goes on
  pub turn-ring : count < n → OrderFound count before table g
  turn-ring l =
      record {
        ring = loop-bad _ _ _ _ group turn.rest (sym (as_before g group) ∙ walk-ring (forest_by count table) places g n walk l);
        parents = turn.parents;
        ordered = λ all. absurd (omega arith);
      }

  module _ (ends : n ≤ count) where
    walk-sure : (k : ℕ) → k ≤ n → ancestor (λ p. parent_by table p) k g < count
        → ends_in (forest_by count before) (ancestor (λ p. parent_by table p) k g) ≡ true
    walk-sure k h l =
        sym (as_before (ancestor (λ p. parent_by table p) k g) l)
        ∙ walk_ends (forest_by count table) places g n walk ends (λ p m q. as_before p m ∙ turn.ends p m q) (n - k) k (omega arith) l

    -- its groups have got their places
    module _ (new are : List ℕ) (put : Placed (λ p. parent_by table p) g end (end + n) table places new are) where
      next-ends : (p : ℕ) → p < count → 0 < get_or are p 0 → ends_in (forest_by count before) p ≡ true
      next-ends p l h =
          ⊎_elim (turn.ends p l)
          (λ q.
          subst (λ (x : ℕ). x < count → ends_in (forest_by count before) x ≡ true) q.1.1 (walk-sure q.0 (omega (arith, q.1.0))) l)
          (placed_by count (λ p. parent_by table p) table places end g n turn.placing walk ends new are put p h)

      -- the table has the same parents
      next-placing : Placing count (λ p. parent_by new p) new are (end + n)
      next-placing =
          let next = placing-next count (λ p. parent_by table p) table places end g n turn.placing walk ends new are put in
          let alike : (i : ℕ) → i < end + n → parent_by new (order_at new i) ≡ parent_by table (order_at new i) =
          λ i h. let l = next.group i h in put.parents (order_at new i) (omega arith) in
          record {
            upto = next.upto;
            group = next.group;
            place = next.place;
            known = next.known;
            after = λ i h. rw (alike i h) (next.after i h);
          }

      pub turn-next : length new ≡ table_length → length are ≡ table_room → Turn count before new are (end + n) (g + 1)
      unfolding ancestor
      turn-next long room =
          record {
            upto = omega arith;
            long = long;
            room = room;
            parents = λ p h. put.parents p h ∙ turn.parents p h;
            placing = next-placing;
            ends = next-ends;
            reached =
                below_more (λ (p : ℕ). 0 < get_or are p 0) g
                (λ p h. placed-still count (λ p. parent_by table p) table places end g n turn.placing walk ends new are put p (turn.reached p h))
                (placed-here count (λ p. parent_by table p) table places end g n turn.placing walk ends new are put group);
            rest = loop-good _ _ _ _ group turn.rest (walk-sure 0 zero-le group);
          }

-- ---- every group has a place: the places are those below the number of groups
module _ (count : ℕ) (before table places : List ℕ) (end : ℕ) (fits : count ≤ table_room) (turn : Turn count before table places end count) where
  place_of : ℕ → ℕ
  place_of p = get_or places p 0 - 1

  place-below : (p : ℕ) → p < count → place_of p < end
  unfolding place_of
  place-below p l =
      let h = turn.reached p l in
      omega (arith, (turn.placing.known p l h).0)

  order-place : (p : ℕ) → p < count → order_at table (place_of p) ≡ p
  unfolding place_of
  order-place p l = (turn.placing.known p l (turn.reached p l)).1

  all_placed : end ≡ count
  all_placed = at (ltb end count) refl
    where
      at : (t : Bool) → ltb end count ≡ t → end ≡ count
      at true e =
          let l = ltb-true end count e in
          absurd
          (too_many end place_of (λ p h. place-below p (omega arith))
          (λ p q h k s. sym (order-place p (omega arith)) ∙ ap (order_at table) s ∙ order-place q (omega arith)))
      at false e = omega (arith, ltb-false end count e, turn.placing.upto)

  turn-ordered : Ordered count table
  turn-ordered =
      record {
        group = λ i h. turn.placing.group i (omega (arith, all_placed));
        once =
            λ i j h k e.
            let one = turn.placing.place i (omega (arith, all_placed)) in
            let two = turn.placing.place j (omega (arith, all_placed)) in
            let same = sym one ∙ ap (λ (p : ℕ). get_or places p 0) e ∙ two in
            omega (arith, same);
        every = λ p h. (place_of p, (omega (arith, place-below p h, all_placed), order-place p h));
        after =
            λ i h l.
            let q = turn.placing.after i (omega (arith, all_placed)) l in (
              get_or places (parent_by table (order_at table i)) 0 - 1,
              (omega (arith, q.0, q.1), (turn.placing.known (parent_by table (order_at table i)) l q.0).1),
            );
      }

pub turn_end : (count : ℕ) (before table places : List ℕ) (end g : ℕ) → count ≤ table_room → Turn count before table places end g → count ≤ g
    → OrderFound count before table g
turn_end count before table places end g fits turn all =
    let last : g ≡ count = omega (arith, turn.upto) in
    record {
      ring = loop-end _ _ _ _ all turn.rest;
      parents = turn.parents;
      ordered = λ h. turn-ordered count before table places end fits (subst (Turn count before table places end) last turn);
    }

-- ---- of a forest whose parents the table has
module _ (f : Forest) (before table : List ℕ) (count r : ℕ) (is : count ≡ f.count) (fits : count ≤ table_room) (parents : ParentsIn f before)
    (found : OrderFound count before table r) where
  pub found-ring : r ≡ first_ring_in f
  found-ring = found.ring ∙ first-ring-alike f (forest_by count before) (table-alike f count before is parents)

  pub found-parents : ParentsIn f table
  found-parents g l = found.parents g (omega arith) ∙ parents g l

  pub found-ordered : f.count ≤ r → Ordered f.count table
  found-ordered all = subst (λ (m : ℕ). Ordered m table) is (found.ordered (omega arith))
