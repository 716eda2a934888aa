-- The pass over the groups for many users at once: each bit of the rows is a set of groups, and what holds of one set's pass holds of all.
-- Assumes nothing.
use Prim.Native.Nat.{ℕ, ◌+◌, ◌/◌, ◌^◌, ◌≤◌, ◌<◌}
use mathlib.Core.Path.{◌≡◌, refl, sym, ap, ap₂, ◌∙◌}
use mathlib.Core.Bool.{Bool, true, false, cond, not, ◌&&◌, ◌||◌, true≢false, or-false, and-false}
use mathlib.Core.List.{List}
use native.Mathlib.Nat.{le_refl}
use native.Mathlib.Omega.{arith}
use borrow.Author.Count.{below_more}
use borrow.Author.Tests.{eqb-true, eqb-false, lt-ltb, le-ltb, ltb-true}
use lib.Dec.{eqb, ltb}
use lib.ListN.{length, get_or, set, length-set}
use lib.Seq.{get_or-set_same, get_or-set_other}
use Rattle.sets.specs.Sets.{has, one, union, intersection, collect}
use Rattle.sets.proofs.Has.{has-ext, none_has, one_has, union-has, intersection-has, difference-has, collect-has}
use Rattle.sets.proofs.Words.{moved-has}
use Rattle.hierarchy.specs.Forest.{Forest, below_in, table_room, parent_by, forest_by, order_at, OrderedBy}
use Rattle.hierarchy.specs.Columns.{column, asked, lacking, row_above, lacks, Lacked}
use Rattle.hierarchy.proofs.InOrder.{Descending, descend-put, descend-pass}

-- ---- columns
pub column-has : (count : ℕ) (rows : List ℕ) (b g : ℕ) → has (column count rows b) g ≡ (ltb g count && has (get_or rows g 0) b)
unfolding column
column-has count rows b g = collect-has (λ g. has (get_or rows g 0) b) count g

pub column-group : (count : ℕ) (rows : List ℕ) (b g : ℕ) → g < count → has (column count rows b) g ≡ has (get_or rows g 0) b
column-group count rows b g h = column-has count rows b g ∙ ap (λ (t : Bool). t && has (get_or rows g 0) b) (lt-ltb g count h)

-- the number that code has for the bits which are asked
pub asked-number : 281470681808895 ≡ asked
unfolding asked collect
asked-number = refl

-- the bits that a group lacks
pub lacking-has : (x u b : ℕ) → has (lacking x u) b ≡ ((has x (16 + b) && has asked b || has x (32 + b)) && not (has u b))
unfolding lacking
lacking-has x u b =
    difference-has (union (intersection (x / 2 ^ 16) asked) (x / 2 ^ 32)) u b
    ∙ ap (λ (t : Bool). t && not (has u b))
    (union-has (intersection (x / 2 ^ 16) asked) (x / 2 ^ 32) b
    ∙ ap₂ (λ (s t : Bool). s || t) (intersection-has (x / 2 ^ 16) asked b ∙ ap (λ (t : Bool). t && has asked b) (moved-has x 16 b)) (moved-has x 32 b))

-- ---- one turn, for one bit
module _ (count : ℕ) (table : List ℕ) (all : OrderedBy count table) (s i g p b : ℕ) (rows : List ℕ) (size : length rows ≡ table_room)
    (so : Descending count table s (column count rows b) i) (left : i < count) (is : g ≡ order_at table i) (up : p ≡ parent_by table g) (new : ℕ)
    (joins : new ≡ union (get_or rows g 0) (row_above count rows p)) where
  group : g < count
  group = rw is (all.2.group i left)

  room : g < length rows
  room = let l = group in let most = all.0 in omega (arith, size)

  here : has (get_or (set rows g new) g 0) b ≡ (has (get_or rows g 0) b || has (row_above count rows p) b)
  here = ap (λ (x : ℕ). has x b) (get_or-set_same rows g new 0 room ∙ joins) ∙ union-has (get_or rows g 0) (row_above count rows p) b

  -- the new column at each place
  at_place : (t : Bool) → has (row_above count rows p) b ≡ t → (q : ℕ)
      → has (column count (set rows g new) b) q ≡ (has (column count rows b) q || (eqb g q && t))
  at_place t e q = column-has count (set rows g new) b q ∙ at (eqb g q) refl ∙ ap (λ (u : Bool). u || (eqb g q && t)) (sym (column-has count rows b q))
    where
      at : (u : Bool) → eqb g q ≡ u
          → (ltb q count && has (get_or (set rows g new) q 0) b) ≡ (ltb q count && has (get_or rows q 0) b || (eqb g q && t))
      at true k =
          let same = eqb-true g q k in
          let inside : ltb q count ≡ true = ap (λ (x : ℕ). ltb x count) (sym same) ∙ lt-ltb g count group in
          ap₂ (λ (u v : Bool). u && v) inside (ap (λ (x : ℕ). has (get_or (set rows g new) x 0) b) (sym same) ∙ here)
          ∙ ap₂ (λ (u v : Bool). u || v) (ap (λ (x : ℕ). has (get_or rows x 0) b) same) e
          ∙ sym (ap₂ (λ (u v : Bool). u && has (get_or rows q 0) b || (v && t)) inside k)
      at false k =
          let other = get_or-set_other rows g q new 0 (λ e. eqb-false g q k (sym e)) in
          ap (λ (x : ℕ). ltb q count && has x b) other ∙ sym (or-false (ltb q count && has (get_or rows q 0) b))
          ∙ sym (ap (λ (v : Bool). ltb q count && has (get_or rows q 0) b || (v && t)) k)

  parent_row : (t : Bool) → ltb p count ≡ t → (p < count → has (column count rows b) p ≡ has (row_above count rows p) b)
      × (has (row_above count rows p) b ≡ true → p < count)
  unfolding row_above
  parent_row true e = (
    λ h. column-group count rows b p h ∙ sym (ap (λ (t : Bool). has (cond t (get_or rows p 0) 0) b) e),
    λ h. ltb-true p count e,
  )
  parent_row false e = (
    λ h. absurd (true≢false (sym (lt-ltb p count h) ∙ e)),
    λ h. absurd (true≢false (sym h ∙ ap (λ (t : Bool). has (cond t (get_or rows p 0) 0) b) e ∙ none_has b)),
  )

  pub column-next : Descending count table s (column count (set rows g new) b) (i + 1)
  column-next = at (has (row_above count rows p) b) refl
    where
      at : (t : Bool) → has (row_above count rows p) b ≡ t → Descending count table s (column count (set rows g new) b) (i + 1)
      at true e =
          let parent = parent_row (ltb p count) refl in
          let h = parent.1 e in
          let same : column count (set rows g new) b ≡ union (column count rows b) (one g) =
          has-ext (column count (set rows g new) b) (union (column count rows b) (one g))
          (λ q. at_place true e q ∙ ap (λ (u : Bool). has (column count rows b) q || u) (last (eqb g q) ∙ sym (one_has g q))
          ∙ sym (union-has (column count rows b) (one g) q)) in
          rw same (descend-put count table all s (column count rows b) i g p so left is up h (parent.0 h ∙ e))
        where
          last : (u : Bool) → (u && true) ≡ u
          last true = refl
          last false = refl
      at false e =
          let parent = parent_row (ltb p count) refl in
          let same : column count (set rows g new) b ≡ column count rows b =
          has-ext (column count (set rows g new) b) (column count rows b)
          (λ q. at_place false e q ∙ ap (λ (u : Bool). has (column count rows b) q || u) (and-false (eqb g q)) ∙ or-false (has (column count rows b) q)) in
          rw same (descend-pass count table all s (column count rows b) i g p so left is up (λ h. parent.0 h ∙ e))

  -- the row's bit before the turn is that of s; after it, it tells whether the group lies below s
  pub row_before : has (get_or rows g 0) b ≡ has s g
  row_before = sym (column-group count rows b g group) ∙ ap (has (column count rows b)) is ∙ so.rest i (le_refl i) left ∙ ap (has s) (sym is)

  pub row-after : has new b ≡ has (below_in (forest_by count table) s) g
  row-after =
      ap (λ (x : ℕ). has x b) (sym (get_or-set_same rows g new 0 room))
      ∙ sym (column-group count (set rows g new) b g group) ∙ ap (has (column count (set rows g new) b)) is ∙ column-next.done i (omega arith)
      ∙ ap (has (below_in (forest_by count table) s)) (sym is)

-- ---- the whole pass
-- the first i groups of the order have been asked; r has what some of them lack
pub record Passing (count : ℕ) (table rows₀ rows : List ℕ) (r i : ℕ) : Type 0 where
  pub upto : i ≤ count
  pub size : length rows ≡ table_room
  pub each : (b : ℕ) → Descending count table (column count rows₀ b) (column count rows b) i
  pub clear : (b : ℕ) → has r b ≡ false → (j : ℕ) → j < i → lacks (forest_by count table) rows₀ b (order_at table j) ≡ false
  pub found : (b : ℕ) → has r b ≡ true → (j : ℕ) × ((j < i) × (lacks (forest_by count table) rows₀ b (order_at table j) ≡ true))

pub pass-start : (count : ℕ) (table rows : List ℕ) → length rows ≡ table_room → Passing count table rows rows 0 0
pass-start count table rows size =
    record {
      upto = omega arith;
      size = size;
      each =
          λ b.
          record {
            done = λ j h. absurd (omega arith);
            rest = λ j low high. refl;
            groups = λ p h. column-has count rows b p ∙ ap (λ (t : Bool). t && has (get_or rows p 0) b) (le-ltb p count h);
          };
      clear = λ b e j h. absurd (omega arith);
      found = λ b e. absurd (true≢false (sym e ∙ none_has b));
    }

module _ (count : ℕ) (table rows₀ rows : List ℕ) (r i g p : ℕ) (all : OrderedBy count table) (so : Passing count table rows₀ rows r i) (left : i < count)
    (is : g ≡ order_at table i) (up : p ≡ parent_by table g) (below : ℕ) (joins : below ≡ union (get_or rows g 0) (row_above count rows p)) where
  abbrev f : Forest
  f = forest_by count table

  -- group g
  inside : g < count
  inside = rw is (all.2.group i left)

  was : (b : ℕ) → has (get_or rows g 0) b ≡ has (get_or rows₀ g 0) b
  was b =
      row_before count table all (column count rows₀ b) i g p b rows so.size (so.each b) left is up below joins
      ∙ column-group count rows₀ b g inside

  told : (b : ℕ) → has (lacking (get_or rows g 0) below) b ≡ lacks f rows₀ b (order_at table i)
  unfolding lacks
  told b =
      lacking-has (get_or rows g 0) below b
      ∙ ap₂ (λ (s t : Bool). s && not t)
      (ap₂ (λ (s t : Bool). s && has asked b || t) (was (16 + b)) (was (32 + b)))
      (row-after count table all (column count rows₀ b) i g p b rows so.size (so.each b) left is up below joins)
      ∙ ap
      (λ (x : ℕ). (has (get_or rows₀ x 0) (16 + b) && has asked b || has (get_or rows₀ x 0) (32 + b)) && not (has (below_in f (column count rows₀ b)) x)) is

  pub pass-next : (l new : ℕ) → l ≡ lacking (get_or rows g 0) below → new ≡ union r l → Passing count table rows₀ (set rows g below) new (i + 1)
  pass-next l new lack adds =
      record {
        upto = omega arith;
        size = length-set rows g below ∙ so.size;
        each = λ b. column-next count table all (column count rows₀ b) i g p b rows so.size (so.each b) left is up below joins;
        clear =
            λ b e.
            let none = neither (has r b) (has l b) (sym (has_new b) ∙ e) in
            below_more (λ (j : ℕ). lacks f rows₀ b (order_at table j) ≡ false) i (so.clear b none.0) (sym (here b) ∙ none.1);
        found = λ b e. either b (has r b) refl (sym (has_new b) ∙ e);
      }
    where
      has_new : (b : ℕ) → has new b ≡ (has r b || has l b)
      has_new b = ap (λ (x : ℕ). has x b) adds ∙ union-has r l b

      here : (b : ℕ) → has l b ≡ lacks f rows₀ b (order_at table i)
      here b = ap (λ (x : ℕ). has x b) lack ∙ told b

      neither : (s t : Bool) → (s || t) ≡ false → (s ≡ false) × (t ≡ false)
      neither true t e = absurd (true≢false e)
      neither false t e = (refl, e)

      either : (b : ℕ) (s : Bool) → has r b ≡ s → (s || has l b) ≡ true → (j : ℕ) × ((j < i + 1) × (lacks f rows₀ b (order_at table j) ≡ true))
      either b true h e = let q = so.found b h in (q.0, (omega (arith, q.1.0), q.1.1))
      either b false h e = (i, (omega arith, sym (here b) ∙ e))

pub pass-end : (count : ℕ) (table rows₀ rows : List ℕ) (r i : ℕ) → OrderedBy count table → Passing count table rows₀ rows r i → count ≤ i
    → Lacked (forest_by count table) rows₀ r
pass-end count table rows₀ rows r i all so end =
    record {
      clear =
          λ b g e h.
          let q = all.2.every g h in
          ap (lacks (forest_by count table) rows₀ b) (sym q.1.1) ∙ so.clear b e q.0 (omega (arith, q.1.0));
      found =
          λ b e.
          let q = so.found b e in
          let most = so.upto in
          let l : q.0 < count = omega (arith, q.1.0) in
          (order_at table q.0, (all.2.group q.0 l, q.1.1));
    }
