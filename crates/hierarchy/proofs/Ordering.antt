-- The order of the groups, walk by walk: the groups of a walk differ, there is room for them, and they get their places. A walk that is
-- longer than there are groups never ends. Assumes nothing.
use Prim.Native.Nat.{ℕ, zero, suc, ◌+◌, ◌-◌, ◌≤◌, ◌<◌, zero-le}
use mathlib.Core.Path.{◌≡◌, refl, sym, ap, ◌∙◌, subst}
use mathlib.Core.Bool.{Bool, true, false, cond}
use mathlib.Core.List.{List}
use mathlib.Core.Logic.{◌⊎◌, inl, inr, ⊎_elim}
use native.Mathlib.Nat.{add-zero, add-suc, eq-or-lt_of_le, le_of_suc-le-suc}
use native.Mathlib.Omega.{arith}
use borrow.Author.Tests.{eqb-true, eqb-false, ltb-true, ltb-false}
use lib.Dec.{eqb, ltb}
use lib.ListN.{get_or}
use Rattle.hierarchy.specs.Forest.{table_room, order_at}
use Rattle.hierarchy.specs.Paths.{ancestor, Passes, Differ, Placed}
use Rattle.hierarchy.proofs.Walks.{too_many}

last_or : (k n : ℕ) → k < suc n → (k ≡ n) ⊎ (k < n)
last_or k n h = eq-or-lt_of_le (le_of_suc-le-suc h)

-- ---- the groups of a walk
module _ (parent : ℕ → ℕ) where
  pub ancestor-after : (k m g : ℕ) → ancestor parent (k + m) g ≡ ancestor parent m (ancestor parent k g)
  unfolding ancestor
  ancestor-after k zero g = rw add-zero
  ancestor-after k (suc m) g = rw add-suc (ap parent (ancestor-after k m g))

  module _ (count : ℕ) (places : List ℕ) (g n : ℕ) (walk : Passes count parent places g n) (ends : n ≤ count) where
    -- a group that came twice would come again and again
    not-again : (j k : ℕ) → j < k → k < n → ancestor parent j g ≡ ancestor parent k g → ⊥
    not-again j k l h e =
        let before : j + (n - k) < n = omega arith in
        let last : k + (n - k) ≡ n = omega arith in
        let same : ancestor parent (j + (n - k)) g ≡ ancestor parent n g =
        ancestor-after j (n - k) g ∙ ap (ancestor parent (n - k)) e ∙ sym (ancestor-after k (n - k) g) ∙ ap (λ (m : ℕ). ancestor parent m g) last in
        let free = subst (λ (p : ℕ). (p < count) × (get_or places p 0 ≡ 0)) same (walk.free (j + (n - k)) before) in
        let placed = walk.stop ends free.0 in
        omega (arith, free.1)

    pub walk-differ : (j k : ℕ) → j < n → k < n → ancestor parent j g ≡ ancestor parent k g → j ≡ k
    walk-differ j k h l e = at (ltb j k) (ltb k j) refl refl
      where
        at : (s t : Bool) → ltb j k ≡ s → ltb k j ≡ t → j ≡ k
        at true t a b = absurd (not-again j k (ltb-true j k a) l e)
        at false true a b = absurd (not-again k j (ltb-true k j b) h (sym e))
        at false false a b = omega (arith, ltb-false j k a, ltb-false k j b)

  -- p is one of the first n, or none of them
  among : (p g n : ℕ) → ((k : ℕ) × ((k < n) × (ancestor parent k g ≡ p))) ⊎ ((k : ℕ) → k < n → ancestor parent k g ≡ p → ⊥)
  among p g zero = inr (λ k h e. absurd (omega arith))
  among p g (suc n) = at (eqb (ancestor parent n g) p) refl (among p g n)
    where
      at : (t : Bool) → eqb (ancestor parent n g) p ≡ t
          → ((k : ℕ) × ((k < n) × (ancestor parent k g ≡ p))) ⊎ ((k : ℕ) → k < n → ancestor parent k g ≡ p → ⊥)
          → ((k : ℕ) × ((k < suc n) × (ancestor parent k g ≡ p))) ⊎ ((k : ℕ) → k < suc n → ancestor parent k g ≡ p → ⊥)
      at true e rest = inl (n, (omega arith, eqb-true (ancestor parent n g) p e))
      at false e (inl q) = inl (q.0, (omega (arith, q.1.0), q.1.1))
      at false e (inr none) = inr (λ k h d. ⊎_elim (λ s. last k d s) (λ l. none k l d) (last_or k n h))
        where
          last : (k : ℕ) → ancestor parent k g ≡ p → k ≡ n → ⊥
          last k d s = eqb-false (ancestor parent n g) p e (ap (λ (m : ℕ). ancestor parent m g) (sym s) ∙ d)

-- ---- the groups that have the first `end` places of the order, and no others
pub record Placing (count : ℕ) (parent : ℕ → ℕ) (table places : List ℕ) (end : ℕ) : Type 0 where
  pub upto : end ≤ count
  pub group : (i : ℕ) → i < end → order_at table i < count
  pub place : (i : ℕ) → i < end → get_or places (order_at table i) 0 ≡ i + 1
  pub known : (p : ℕ) → p < count → 0 < get_or places p 0 → (get_or places p 0 ≤ end) × (order_at table (get_or places p 0 - 1) ≡ p)
  pub after : (i : ℕ) → i < end → parent (order_at table i) < count
      → (0 < get_or places (parent (order_at table i)) 0) × (get_or places (parent (order_at table i)) 0 ≤ i)

-- at the start no group has a place
pub placing-start : (count : ℕ) (parent : ℕ → ℕ) (table places : List ℕ) → ((p : ℕ) → p < count → get_or places p 0 ≡ 0)
    → Placing count parent table places 0
placing-start count parent table places none =
    record {
      upto = zero-le;
      group = λ i h. absurd (omega arith);
      place = λ i h. absurd (omega arith);
      known = λ p h l. absurd (omega (arith, none p h));
      after = λ i h. absurd (omega arith);
    }

-- a walk from g through n groups that have no place yet
module _ (count : ℕ) (parent : ℕ → ℕ) (table places : List ℕ) (end g n : ℕ)
    (so : Placing count parent table places end) (walk : Passes count parent places g n) (ends : n ≤ count) where
  -- the groups that have a place, and then those of the walk
  each : ℕ → ℕ
  each i = cond (ltb i end) (order_at table i) (ancestor parent (i - end) g)

  each_below : count < end + n → (i : ℕ) → i ≤ count → each i < count
  unfolding each
  each_below l i h = at (ltb i end) refl
    where
      at : (t : Bool) → ltb i end ≡ t → cond t (order_at table i) (ancestor parent (i - end) g) < count
      at true e = so.group i (ltb-true i end e)
      at false e = (walk.free (i - end) (omega (arith, ltb-false i end e))).0

  -- a group that has a place is not on the walk
  apart : (i k : ℕ) → i < end → k < n → order_at table i ≡ ancestor parent k g → ⊥
  apart i k h l e =
      let placed : get_or places (ancestor parent k g) 0 ≡ i + 1 = ap (λ (p : ℕ). get_or places p 0) (sym e) ∙ so.place i h in
      omega (arith, (walk.free k l).1)

  each-differ : count < end + n → (i j : ℕ) → i ≤ count → j ≤ count → each i ≡ each j → i ≡ j
  unfolding each
  each-differ l i j h k e = at (ltb i end) (ltb j end) refl refl e
    where
      at : (s t : Bool) → ltb i end ≡ s → ltb j end ≡ t
          → cond s (order_at table i) (ancestor parent (i - end) g) ≡ cond t (order_at table j) (ancestor parent (j - end) g) → i ≡ j
      at true true a b q =
          let one = sym (so.place i (ltb-true i end a)) ∙ ap (λ (p : ℕ). get_or places p 0) q ∙ so.place j (ltb-true j end b) in
          omega (arith, one)
      at true false a b q = absurd (apart i (j - end) (ltb-true i end a) (omega (arith, ltb-false j end b)) q)
      at false true a b q = absurd (apart j (i - end) (ltb-true j end b) (omega (arith, ltb-false i end a)) (sym q))
      at false false a b q =
          let low = ltb-false i end a in
          let high = ltb-false j end b in
          let same = walk-differ parent count places g n walk ends (i - end) (j - end) (omega arith) (omega arith) q in
          omega arith

  pub walk-room : end + n ≤ count
  walk-room = at (ltb count (end + n)) refl
    where
      at : (t : Bool) → ltb count (end + n) ≡ t → end + n ≤ count
      at true e = let l = ltb-true count (end + n) e in absurd (too_many count each (each_below l) (each-differ l))
      at false e = ltb-false count (end + n) e

  pub walk-room-differ : count ≤ table_room → Differ table_room parent g (end + n - end)
  walk-room-differ fits =
      record {
        inside = λ k h. let l = (walk.free k (omega arith)).0 in omega arith;
        differ = λ j k h l e. walk-differ parent count places g n walk ends j k (omega arith) (omega arith) e;
      }

  -- they have the places from `end` on
  module _ (new are : List ℕ) (put : Placed parent g end (end + n) table places new are) where
    kept : (p : ℕ) → 0 < get_or places p 0 → get_or are p 0 ≡ get_or places p 0
    kept p h =
        put.other p
        (λ i low high e.
        let free : get_or places p 0 ≡ 0 = ap (λ (q : ℕ). get_or places q 0) e ∙ (walk.free (end + n - 1 - i) (omega arith)).1 in
        omega arith)

    still : (i : ℕ) → i < end → get_or are (order_at table i) 0 ≡ i + 1
    still i h = let was = so.place i h in kept (order_at table i) (omega arith) ∙ was

    -- the k-th group of the walk
    new-place : (k : ℕ) → k < n → get_or are (ancestor parent k g) 0 ≡ end + n - k
    new-place k h =
        let at : end + n - 1 - (end + n - 1 - k) ≡ k = omega arith in
        let is : end + n - 1 - k + 1 ≡ end + n - k = omega arith in
        ap (λ (m : ℕ). get_or are (ancestor parent m g) 0) (sym at) ∙ put.place (end + n - 1 - k) (omega arith) (omega arith) ∙ is

    new-order : (k : ℕ) → k < n → order_at new (end + n - 1 - k) ≡ ancestor parent k g
    new-order k h =
        let at : end + n - 1 - (end + n - 1 - k) ≡ k = omega arith in
        put.order (end + n - 1 - k) (omega arith) (omega arith) ∙ ap (λ (m : ℕ). ancestor parent m g) at

    -- a group that has a place now had one, or is on the walk
    pub placed_by : (p : ℕ) → 0 < get_or are p 0 → (0 < get_or places p 0) ⊎ ((k : ℕ) × ((k < n) × (ancestor parent k g ≡ p)))
    placed_by p h =
        ⊎_elim inr
        (λ none.
        let same = put.other p (λ i low high e. none (end + n - 1 - i) (omega arith) (sym e)) in
        inl (omega arith))
        (among parent p g n)

    next_known : (p : ℕ) → p < count → 0 < get_or are p 0 → (get_or are p 0 ≤ end + n) × (order_at new (get_or are p 0 - 1) ≡ p)
    next_known p l h = ⊎_elim old on-walk (placed_by p h)
      where
        old : 0 < get_or places p 0 → (get_or are p 0 ≤ end + n) × (order_at new (get_or are p 0 - 1) ≡ p)
        old was =
            let same = kept p was in
            let q = so.known p l was in
            (omega (arith, q.0), ap (λ (w : ℕ). order_at new (w - 1)) same ∙ put.lower (get_or places p 0 - 1) (omega (arith, q.0)) ∙ q.1)

        on-walk : (k : ℕ) × ((k < n) × (ancestor parent k g ≡ p)) → (get_or are p 0 ≤ end + n) × (order_at new (get_or are p 0 - 1) ≡ p)
        on-walk q =
            let is : get_or are p 0 ≡ end + n - q.0 = ap (λ (w : ℕ). get_or are w 0) (sym q.1.1) ∙ new-place q.0 q.1.0 in
            let at : get_or are p 0 - 1 ≡ end + n - 1 - q.0 = omega arith in
            (omega arith, ap (order_at new) at ∙ new-order q.0 q.1.0 ∙ q.1.1)

    -- place i: one of those before, or one of the walk
    module _ (i : ℕ) (h : i < end + n) where
      next-group : order_at new i < count
      next-group = at (ltb i end) refl
        where
          at : (t : Bool) → ltb i end ≡ t → order_at new i < count
          at true e = let l = ltb-true i end e in rw (put.lower i l) (so.group i l)
          at false e = let l = ltb-false i end e in rw (put.order i l h) (walk.free (end + n - 1 - i) (omega arith)).0

      next_place : get_or are (order_at new i) 0 ≡ i + 1
      next_place = at (ltb i end) refl
        where
          at : (t : Bool) → ltb i end ≡ t → get_or are (order_at new i) 0 ≡ i + 1
          at true e = let l = ltb-true i end e in ap (λ (w : ℕ). get_or are w 0) (put.lower i l) ∙ still i l
          at false e = let l = ltb-false i end e in ap (λ (w : ℕ). get_or are w 0) (put.order i l h) ∙ put.place i l h

      abbrev After : ℕ → Type 0
      After p = parent p < count → (0 < get_or are (parent p) 0) × (get_or are (parent p) 0 ≤ i)

      -- the parent of the k-th group of the walk is the one after it, or that at which the walk stopped
      walk_after : (k : ℕ) → k < n → i ≡ end + n - 1 - k → After (ancestor parent k g)
      unfolding ancestor
      walk_after k l is p = at (ltb (suc k) n) refl
        where
          at : (t : Bool) → ltb (suc k) n ≡ t
              → (0 < get_or are (ancestor parent (suc k) g) 0) × (get_or are (ancestor parent (suc k) g) 0 ≤ i)
          at true e =
              let m = ltb-true (suc k) n e in
              let q = new-place (suc k) m in
              (omega arith, omega arith)
          at false e =
              let last : n ≡ suc k = omega (arith, ltb-false (suc k) n e) in
              let stop : 0 < get_or places (ancestor parent (suc k) g) 0 =
              subst (λ (m : ℕ). ancestor parent m g < count → 0 < get_or places (ancestor parent m g) 0) last (walk.stop ends) p in
              let same = kept (ancestor parent (suc k) g) stop in
              let q = (so.known (ancestor parent (suc k) g) p stop).0 in
              (omega arith, omega arith)

      next-after : After (order_at new i)
      next-after = at (ltb i end) refl
        where
          at : (t : Bool) → ltb i end ≡ t → After (order_at new i)
          at true e =
              let l = ltb-true i end e in
              rw (put.lower i l)
              (λ p.
              let q = so.after i l p in
              let same = kept (parent (order_at table i)) q.0 in
              (omega (arith, q.0), omega (arith, q.1)))
          at false e =
              let l = ltb-false i end e in
              rw (put.order i l h) (walk_after (end + n - 1 - i) (omega arith) (omega arith))

    pub placing-next : Placing count parent new are (end + n)
    placing-next =
        record { upto = walk-room; group = next-group; place = next_place; known = next_known; after = next-after }

    -- g has a place now, and so have those that had one
    pub placed-still : (p : ℕ) → 0 < get_or places p 0 → 0 < get_or are p 0
    placed-still p h = let same = kept p h in omega arith

    pub placed-here : g < count → 0 < get_or are g 0
    unfolding ancestor
    placed-here l = at (ltb 0 n) refl
      where
        at : (t : Bool) → ltb 0 n ≡ t → 0 < get_or are g 0
        at true e = let q = new-place 0 (ltb-true 0 n e) in let some = ltb-true 0 n e in omega arith
        at false e =
            let none : n ≡ 0 = omega (arith, ltb-false 0 n e) in
            placed-still g (subst (λ (m : ℕ). ancestor parent m g < count → 0 < get_or places (ancestor parent m g) 0) none (walk.stop ends) l)
