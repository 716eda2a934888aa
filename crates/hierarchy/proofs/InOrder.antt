-- `below` of a set by one pass over the order of the groups: a group lies below the set where it is in it, or where its parent lies below
-- it, and the parent stands at a lower place. Assumes nothing.
use Prim.Native.Nat.{ℕ, ◌+◌, ◌/◌, ◌%◌, ◌^◌, ◌≤◌, ◌<◌}
use mathlib.Core.Path.{◌≡◌, refl, sym, ap, ◌∙◌}
use mathlib.Core.Bool.{Bool, true, false, ◌&&◌, ◌||◌, or-true, or-false, and-true, and-false}
use mathlib.Core.List.{List, [], ◌∷◌}
use native.Mathlib.Nat.{le_refl}
use native.Mathlib.Omega.{arith}
use borrow.Author.Count.{below_more}
use borrow.Author.Tests.{eq-eqb, ne_eqb, lt-ltb, ltb-true, ltb-false, le-ltb}
use lib.Dec.{eqb, ltb}
use lib.ListN.{length, get_or, set, length-set}
use Rattle.sets.specs.Sets.{has, one, all_below, union, intersection, within}
use Rattle.sets.specs.Words.{word_of, joined}
use Rattle.sets.proofs.Has.{has-ext, one_has, all_below-has, union-has, intersection-has}
use Rattle.sets.proofs.Within.{within-trans, intersection-within-right}
use Rattle.sets.proofs.Bounds.{within-below}
use Rattle.sets.proofs.Words.{low-has, word_of-zero, joined-has, joined-whole}
use Rattle.sets.proofs.EachWord.{each-word_of, joined-with}
use Rattle.hierarchy.specs.Forest.{Forest, below_in, parent_by, forest_by, order_at, OrderedBy}
use Rattle.hierarchy.proofs.Under.{below-place, below-outside, below-parent, below_self, below-groups}

-- of the groups at the first i places, r has those that lie below s; of the others those of s
pub record Descending (count : ℕ) (table : List ℕ) (s r i : ℕ) : Type 0 where
  pub done : (j : ℕ) → j < i → has r (order_at table j) ≡ has (below_in (forest_by count table) s) (order_at table j)
  pub rest : (j : ℕ) → i ≤ j → j < count → has r (order_at table j) ≡ has s (order_at table j)
  pub groups : (p : ℕ) → count ≤ p → has r p ≡ false

-- s has groups only
pub descend-start : (count : ℕ) (table : List ℕ) (t s : ℕ) → s ≡ intersection t (all_below count) → Descending count table s s 0
descend-start count table t s is =
    record {
      done = λ j h. absurd (omega arith);
      rest = λ j low high. refl;
      groups =
          λ p h.
          ap (λ (x : ℕ). has x p) is ∙ intersection-has t (all_below count) p
          ∙ ap (λ (b : Bool). has t p && b) (all_below-has count p ∙ le-ltb p count h) ∙ and_none (has t p);
    }
  where
    and_none : (b : Bool) → (b && false) ≡ false
    and_none true = refl
    and_none false = refl

module _ (count : ℕ) (table : List ℕ) (all : OrderedBy count table) (s r i g p : ℕ) (so : Descending count table s r i) (left : i < count)
    (is : g ≡ order_at table i) (up : p ≡ parent_by table g) where
  abbrev f : Forest
  f = forest_by count table

  pub group : g < count
  group = rw is (all.2.group i left)

  -- the parent has been asked
  parent-done : p < count → has r p ≡ has (below_in f s) p
  parent-done h =
      let same : p ≡ parent_by table (order_at table i) = up ∙ ap (λ (x : ℕ). parent_by table x) is in
      let q = all.2.after i left (rw (sym same) h) in
      let at : order_at table q.0 ≡ p = q.1.1 ∙ sym same in
      ap (has r) (sym at) ∙ so.done q.0 q.1.0 ∙ ap (has (below_in f s)) at

  -- r, or r with g, where it now tells of g
  module _ (new : ℕ) (tells : has new g ≡ has (below_in f s) g) (keeps : (q : ℕ) → eqb g q ≡ false → has new q ≡ has r q) where
    other : (j : ℕ) → j < count → (j ≡ i → ⊥) → eqb g (order_at table j) ≡ false
    other j h d = ne_eqb g (order_at table j) (λ e. d (all.2.once j i h left (sym e ∙ is)))

    descend-next : Descending count table s new (i + 1)
    descend-next =
        record {
          done =
              below_more (λ (j : ℕ). has new (order_at table j) ≡ has (below_in f s) (order_at table j)) i
              (λ j h. keeps (order_at table j) (other j (omega arith) (omega arith)) ∙ so.done j h)
              (rw (sym is) tells);
          rest = λ j low high. keeps (order_at table j) (other j high (omega arith)) ∙ so.rest j (omega arith) high;
          groups = λ q h. keeps q (ne_eqb g q (let l = group in omega arith)) ∙ so.groups q h;
        }

  lies : (t : Bool) → has s g ≡ t → has (below_in f s) p ≡ true → has (below_in f s) g ≡ true
  lies true h b = below-place f s g group h
  lies false h b = below-parent f all.1 s g group h ∙ ap (has (below_in f s)) (sym up) ∙ b

  -- its parent is in r
  pub descend-put : p < count → has r p ≡ true → Descending count table s (union r (one g)) (i + 1)
  descend-put h k =
      descend-next (union r (one g))
      (union-has r (one g) g ∙ ap (λ (b : Bool). has r g || b) (one_has g g ∙ eq-eqb g g refl) ∙ or-true (has r g)
      ∙ sym (lies (has s g) refl (sym (parent-done h) ∙ k)))
      (λ q e. union-has r (one g) q ∙ ap (λ (b : Bool). has r q || b) (one_has g q ∙ e) ∙ or-false (has r q))

  -- it has none in r
  pub descend-pass : (p < count → has r p ≡ false) → Descending count table s r (i + 1)
  descend-pass none = descend-next r (ap (has r) is ∙ so.rest i (le_refl i) left ∙ ap (has s) (sym is) ∙ at (has s g) refl) (λ q e. refl)
    where
      above : (t : Bool) → ltb p count ≡ t → has (below_in f s) p ≡ false
      above true l = let h = ltb-true p count l in sym (parent-done h) ∙ none h
      above false l = below-outside f s p (ltb-false p count l)

      at : (t : Bool) → has s g ≡ t → has s g ≡ has (below_in f s) g
      at true h = h ∙ sym (below-place f s g group h)
      at false h =
          h ∙ sym (below-parent f all.1 s g group h ∙ ap (has (below_in f s)) (sym up) ∙ above (ltb p count) refl)

-- every group has been asked
pub descend-end : (count : ℕ) (table : List ℕ) → OrderedBy count table → (s r i : ℕ) → Descending count table s r i → count ≤ i
    → r ≡ below_in (forest_by count table) s
descend-end count table all s r i so h = has-ext r (below_in (forest_by count table) s) (λ p. at p (ltb p count) refl)
  where
    at : (p : ℕ) (t : Bool) → ltb p count ≡ t → has r p ≡ has (below_in (forest_by count table) s) p
    at p true e =
        let q = all.2.every p (ltb-true p count e) in
        ap (has r) (sym q.1.1) ∙ so.done q.0 (omega (arith, q.1.0)) ∙ ap (has (below_in (forest_by count table) s)) q.1.1
    at p false e = let l = ltb-false p count e in so.groups p l ∙ sym (below-outside (forest_by count table) s p l)

-- ---- where one word holds every group, the others tell nothing
pub below_word : (f : Forest) (s : ℕ) → f.count ≤ 64 → below_in f (word_of s 0) ≡ below_in f s
below_word f s h =
    sym (below-groups f (word_of s 0)) ∙ ap (below_in f) (has-ext (intersection (word_of s 0) all) (intersection s all) same) ∙ below-groups f s
  where
    all : ℕ
    all = all_below f.count

    at : (p : ℕ) (t : Bool) → ltb p f.count ≡ t → (has (word_of s 0) p && t) ≡ (has s p && t)
    at p true e =
        ap (λ (b : Bool). b && true)
        (ap (λ (x : ℕ). has x p) (word_of-zero s) ∙ low-has s 64 p
        ∙ ap (λ (b : Bool). has s p && b) (lt-ltb p 64 (let l = ltb-true p f.count e in omega arith)) ∙ and-true (has s p))
    at p false e = and-false (has (word_of s 0) p) ∙ sym (and-false (has s p))

    same : (p : ℕ) → has (intersection (word_of s 0) all) p ≡ has (intersection s all) p
    same p =
        intersection-has (word_of s 0) all p ∙ ap (λ (b : Bool). has (word_of s 0) p && b) (all_below-has f.count p) ∙ at p (ltb p f.count) refl
        ∙ ap (λ (b : Bool). has s p && b) (sym (all_below-has f.count p)) ∙ sym (intersection-has s all p)

-- ---- groups of t itself lie below it
pub roots-lie : (f : Forest) (s t all : ℕ) → all ≡ all_below f.count → within s (intersection t all) ≡ true → within s (below_in f t) ≡ true
roots-lie f s t all is w =
    let groups = intersection t (all_below f.count) in
    let small = within-below groups f.count (intersection-within-right t (all_below f.count)) in
    within-trans s groups (below_in f t) (rw (sym is) w) (rw (sym (below-groups f t)) (below_self f groups small))

-- ---- a set as four words
pub four-words : (s w0 w1 w2 w3 : ℕ) → s < 2 ^ 256 → w0 ≡ word_of s 0 → w1 ≡ word_of s 1 → w2 ≡ word_of s 2 → w3 ≡ word_of s 3
    → joined (w0 ∷ w1 ∷ w2 ∷ w3 ∷ []) ≡ s
four-words s w0 w1 w2 w3 h a b c d = rw (a, b, c, d) (ap joined (each-word_of 4 s) ∙ joined-whole 4 s h)

-- the turn of the pass, by words
module _ (count : ℕ) (table : List ℕ) (all : OrderedBy count table) (s i g p : ℕ) (ws : List ℕ) (four : length ws ≡ 4)
    (so : Descending count table s (joined ws) i) (left : i < count) (is : g ≡ order_at table i) (up : p ≡ parent_by table g) (new : List ℕ) where
  pub words-put : (w : ℕ) → p < count → has (get_or ws (p / 64) 0) (p % 64) ≡ true → w ≡ union (get_or ws (g / 64) 0) (one (g % 64))
      → new ≡ set ws (g / 64) w → (length new ≡ 4) × Descending count table s (joined new) (i + 1)
  words-put w h k e put =
      let inside = group count table all s (joined ws) i g p so left is up in
      let room = all.0 in
      let same : joined (set ws (g / 64) w) ≡ union (joined ws) (one g) =
      rw e (joined-with ws (g / 64) (g % 64) g (omega arith) (omega arith) (omega arith)) in
      rw put (
        length-set ws (g / 64) w ∙ four,
        rw same (descend-put count table all s (joined ws) i g p so left is up h (joined-has ws p ∙ k)),
      )

  pub words-pass : (p < count → has (get_or ws (p / 64) 0) (p % 64) ≡ false) → new ≡ ws → (length new ≡ 4) × Descending count table s (joined new) (i + 1)
  words-pass none kept =
      rw kept (four, descend-pass count table all s (joined ws) i g p so left is up (λ h. joined-has ws p ∙ none h))
