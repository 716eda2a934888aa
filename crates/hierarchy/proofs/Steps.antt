-- What the loops that fill the table need: one step of each. Assumes nothing.
use Prim.Native.Nat.{ℕ, suc, ◌+◌, ◌-◌, ◌*◌, ◌/◌, ◌%◌, ◌≤◌, ◌<◌, zero-le}
use mathlib.Core.Path.{◌≡◌, refl, sym, ap, ap₂, ◌∙◌, subst}
use mathlib.Core.Bool.{Bool, true, false}
use mathlib.Core.List.{List}
use mathlib.Core.Logic.{◌⊎◌, inl, inr, ⊎_elim}
use native.Mathlib.Nat.{le_refl, sub_self}
use native.Mathlib.Numerals.{add-one}
use native.Mathlib.Omega.{arith}
use borrow.Author.Count.{below_more}
use borrow.Author.Tests.{ltb-true, ltb-false}
use lib.Dec.{ltb}
use lib.ListN.{length, get_or, set, length-set}
use lib.Seq.{get_or-set_same, get_or-set_other}
use Rattle.fields.specs.Bytes.{number2}
use Rattle.hierarchy.specs.Forest.{table_room, table_length, parent_by, order_at}
use Rattle.hierarchy.specs.Paths.{ancestor, Passes, Differ, Placed}

-- ---- a loop that puts the parents
-- the two bytes of g's parent, whose place is w
abbrev pub stored : List ℕ → (g w : ℕ) → List ℕ
stored table g w = set (set table (2 * g) (w % 256)) (2 * g + 1) (w / 256)

pub stored-length : (table : List ℕ) (g w : ℕ) → length (stored table g w) ≡ length table
stored-length table g w = length-set (set table (2 * g) (w % 256)) (2 * g + 1) (w / 256) ∙ length-set table (2 * g) (w % 256)

pub stored_more : (parent : ℕ → ℕ) (table : List ℕ) (g w : ℕ) → 2 * g + 1 < length table → w ≡ parent g
    → ((k : ℕ) → k < g → parent_by table k ≡ parent k)
    → (k : ℕ) → k < g + 1 → parent_by (stored table g w) k ≡ parent k
unfolding number2
stored_more parent table g w l is before = below_more (λ (k : ℕ). parent_by (stored table g w) k ≡ parent k) g lower here
  where
    one : List ℕ
    one = set table (2 * g) (w % 256)

    unmoved : (k : ℕ) → k < 2 * g → get_or (stored table g w) k 0 ≡ get_or table k 0
    unmoved k h = get_or-set_other one (2 * g + 1) k (w / 256) 0 (omega arith) ∙ get_or-set_other table (2 * g) k (w % 256) 0 (omega arith)

    lower : (k : ℕ) → k < g → parent_by (stored table g w) k ≡ parent k
    lower k h =
        ap₂ (λ (x y : ℕ). x + 256 * y) (unmoved (2 * k) (omega arith)) (unmoved (2 * k + 1) (omega arith)) ∙ before k h

    here : parent_by (stored table g w) g ≡ parent g
    here =
        let long : length one ≡ length table = length-set table (2 * g) (w % 256) in
        let low : get_or (stored table g w) (2 * g) 0 ≡ w % 256 =
        get_or-set_other one (2 * g + 1) (2 * g) (w / 256) 0 (omega arith) ∙ get_or-set_same table (2 * g) (w % 256) 0 (omega arith) in
        let high : get_or (stored table g w) (2 * g + 1) 0 ≡ w / 256 = get_or-set_same one (2 * g + 1) (w / 256) 0 (omega arith) in
        ap₂ (λ (x y : ℕ). x + 256 * y) low high ∙ omega (arith, is)

-- a byte behind the parents
behind : (table : List ℕ) (k w p : ℕ) → 512 ≤ k → p < table_room → parent_by (set table k w) p ≡ parent_by table p
unfolding number2
behind table k w p h l =
    ap₂ (λ (x y : ℕ). x + 256 * y) (get_or-set_other table k (2 * p) w 0 (omega arith)) (get_or-set_other table k (2 * p + 1) w 0 (omega arith))

-- ---- a loop that gives the groups of a walk from g their places, from the last down
pub placed-none : (parent : ℕ → ℕ) (g end : ℕ) (table places : List ℕ) → Placed parent g end end table places table places
placed-none parent g end table places =
    record {
      parents = λ p h. refl;
      lower = λ i h. refl;
      order = λ i low high. absurd (omega arith);
      place = λ i low high. absurd (omega arith);
      other = λ p none. refl;
    }

module _ (parent : ℕ → ℕ) (g from to end at : ℕ) (before were table places : List ℕ) (left : from < to) (inside : to ≤ end) (room : end ≤ table_room)
    (differ : Differ table_room parent g (end - from)) (long : length table ≡ table_length) (all : length places ≡ table_room)
    (is : at ≡ ancestor parent (end - to) g) (so : Placed parent g to end before were table places) where
  -- place i among those that are given now: the last, or one of those before
  last : (i : ℕ) → to - 1 ≤ i → (i ≡ to - 1) ⊎ (to ≤ i)
  last i h = at' (ltb i to) refl
    where
      at' : (t : Bool) → ltb i to ≡ t → (i ≡ to - 1) ⊎ (to ≤ i)
      at' true e = inl (omega (arith, ltb-true i to e))
      at' false e = inr (ltb-false i to e)

  here : end - 1 - (to - 1) ≡ end - to
  here = omega arith

  at-inside : at < table_room
  at-inside = rw is (differ.inside (end - to) (omega arith))

  new-order : (i : ℕ) → to - 1 ≤ i → i < end → order_at (set table (511 + to) at) i ≡ ancestor parent (end - 1 - i) g
  new-order i low high = ⊎_elim now earlier (last i low)
    where
      now : i ≡ to - 1 → order_at (set table (511 + to) at) i ≡ ancestor parent (end - 1 - i) g
      now e =
          let slot : 512 + i ≡ 511 + to = omega arith in
          ap (λ (k : ℕ). get_or (set table (511 + to) at) k 0) slot
          ∙ get_or-set_same table (511 + to) at 0 (omega arith) ∙ is
          ∙ ap (λ (k : ℕ). ancestor parent k g) (sym (ap (λ (k : ℕ). end - 1 - k) e ∙ here))

      earlier : to ≤ i → order_at (set table (511 + to) at) i ≡ ancestor parent (end - 1 - i) g
      earlier l = get_or-set_other table (511 + to) (512 + i) at 0 (omega arith) ∙ so.order i l high

  new-place : (i : ℕ) → to - 1 ≤ i → i < end → get_or (set places at to) (ancestor parent (end - 1 - i) g) 0 ≡ i + 1
  new-place i low high = ⊎_elim now earlier (last i low)
    where
      now : i ≡ to - 1 → get_or (set places at to) (ancestor parent (end - 1 - i) g) 0 ≡ i + 1
      now e =
          let same : ancestor parent (end - 1 - i) g ≡ at = ap (λ (k : ℕ). ancestor parent k g) (ap (λ (k : ℕ). end - 1 - k) e ∙ here) ∙ sym is in
          let room = at-inside in
          ap (λ (k : ℕ). get_or (set places at to) k 0) same ∙ get_or-set_same places at to 0 (omega arith) ∙ omega arith

      earlier : to ≤ i → get_or (set places at to) (ancestor parent (end - 1 - i) g) 0 ≡ i + 1
      earlier l =
          let other : ancestor parent (end - 1 - i) g ≡ at → ⊥ =
          λ e. let same = differ.differ (end - 1 - i) (end - to) (omega arith) (omega arith) (e ∙ is) in omega arith in
          get_or-set_other places at (ancestor parent (end - 1 - i) g) to 0 other ∙ so.place i l high

  pub placed-more : Placed parent g (to - 1) end before were (set table (511 + to) at) (set places at to)
  placed-more =
      record {
        parents = λ p h. behind table (511 + to) at p (omega arith) h ∙ so.parents p h;
        lower = λ i h. get_or-set_other table (511 + to) (512 + i) at 0 (omega arith) ∙ so.lower i (omega arith);
        order = new-order;
        place = new-place;
        other =
            λ p none.
            let apart : p ≡ at → ⊥ =
            λ e. none (to - 1) (omega arith) (omega arith) (e ∙ is ∙ ap (λ (k : ℕ). ancestor parent k g) (sym here)) in
            get_or-set_other places at p to 0 apart ∙ so.other p (λ i low high. none i (omega arith) high);
      }

-- ---- a loop that counts the groups of a walk from g: it is at the n-th
pub record Passing (count : ℕ) (parent : ℕ → ℕ) (places : List ℕ) (g at n : ℕ) : Type 0 where
  pub upto : n ≤ count + 1
  pub is : at ≡ ancestor parent n g
  pub free : (k : ℕ) → k < n → (ancestor parent k g < count) × (get_or places (ancestor parent k g) 0 ≡ 0)

module _ (count : ℕ) (parent : ℕ → ℕ) (places : List ℕ) (g : ℕ) where
  pub passing-start : Passing count parent places g g 0
  unfolding ancestor
  passing-start = record { upto = zero-le; is = refl; free = λ k h. absurd (omega arith) }

  module _ (at n : ℕ) (so : Passing count parent places g at n) where
    pub passing-next : n ≤ count → at < count → get_or places at 0 ≡ 0 → (q : ℕ) → q ≡ parent at → Passing count parent places g q (n + 1)
    unfolding ancestor
    passing-next left group none q next =
        record {
          upto = omega arith;
          is = next ∙ ap parent so.is ∙ ap (λ (m : ℕ). ancestor parent m g) (sym (add-one n));
          free =
              below_more (λ (k : ℕ). (ancestor parent k g < count) × (get_or places (ancestor parent k g) 0 ≡ 0)) n so.free
              (subst (λ (p : ℕ). (p < count) × (get_or places p 0 ≡ 0)) so.is (group, none));
        }

    -- it has come to none, or to a group that has a place
    pub passing-stop : (at < count → 0 < get_or places at 0) → Passes count parent places g n
    passing-stop stop =
        record { upto = so.upto; free = so.free; stop = λ ends. subst (λ (p : ℕ). p < count → 0 < get_or places p 0) so.is stop }

    pub passing-on : count < n → Passes count parent places g n
    passing-on long = record { upto = so.upto; free = so.free; stop = λ ends. absurd (omega arith) }

-- that loop: the places from `to` on are given, and the walk is at the group that gets the one before
pub record Putting (g from to end : ℕ) (before were table places : List ℕ) (at : ℕ) : Type 0 where
  pub low : from ≤ to
  pub high : to ≤ end
  pub room : end ≤ table_room
  pub long : length table ≡ table_length
  pub all : length places ≡ table_room
  pub differ : Differ table_room (λ p. parent_by before p) g (end - from)
  pub is : at ≡ ancestor (λ p. parent_by before p) (end - to) g
  pub placed : Placed (λ p. parent_by before p) g to end before were table places

pub putting-start : (g from end : ℕ) (table places : List ℕ) → (length table ≡ table_length) × (length places ≡ table_room)
    → (from ≤ end) × ((end ≤ table_room) × Differ table_room (λ p. parent_by table p) g (end - from))
    → Putting g from end end table places table places g
unfolding ancestor
putting-start g from end table places long inside =
    record {
      low = inside.0;
      high = le_refl end;
      room = inside.1.0;
      long = long.0;
      all = long.1;
      differ = inside.1.1;
      is = ap (λ (n : ℕ). ancestor (λ p. parent_by table p) n g) (sym (sub_self end));
      placed = placed-none (λ p. parent_by table p) g end table places;
    }

module _ (g from to end : ℕ) (before were table places : List ℕ) (at : ℕ) (so : Putting g from to end before were table places at) (left : from < to) where
  pub putting-at : at < table_room
  putting-at = rw so.is (so.differ.inside (end - to) (omega (arith, so.high)))

  pub putting-next : (q : ℕ) → q ≡ parent_by (set table (511 + to) at) at
      → Putting g from (to - 1) end before were (set table (511 + to) at) (set places at to) q
  unfolding ancestor
  putting-next q next =
      let more =
      placed-more (λ p. parent_by before p) g from to end at before were table places left so.high so.room so.differ so.long so.all
      so.is so.placed in
      let one : suc (end - to) ≡ end - (to - 1) = omega (arith, so.high) in
      record {
        low = omega arith;
        high = omega (arith, so.high);
        room = so.room;
        long = length-set table (511 + to) at ∙ so.long;
        all = length-set places at to ∙ so.all;
        differ = so.differ;
        is =
            next ∙ more.parents at putting-at ∙ ap (λ (p : ℕ). parent_by before p) so.is
            ∙ ap (λ (n : ℕ). ancestor (λ p. parent_by before p) n g) one;
        placed = more;
      }

pub putting-end : (g from to end : ℕ) (before were table places : List ℕ) (at : ℕ) → Putting g from to end before were table places at → to ≤ from
    → Placed (λ p. parent_by before p) g from end before were table places
putting-end g from to end before were table places at so h =
    subst (λ (n : ℕ). Placed (λ p. parent_by before p) g n end before were table places) (omega (arith, so.low)) so.placed
