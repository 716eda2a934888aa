-- What the bits that the pass collects say of the users, and the lowest user whose groups break the rule. Assumes nothing.
use Prim.Native.Nat.{ℕ, ◌+◌, ◌-◌, ◌/◌, ◌%◌, ◌^◌, ◌≤◌, ◌<◌}
use mathlib.Core.Path.{◌≡◌, refl, sym, ap, ap₂, ◌∙◌}
use mathlib.Core.Bool.{Bool, true, false, not, ◌&&◌, ◌||◌, true≢false, or-true, and-false, and-eq-true_iff}
use mathlib.Core.List.{List}
use mathlib.Core.Logic.{◌⊎◌, inl, inr, ⊎_elim}
use native.Mathlib.Nat.{lt_of_not-le}
use native.Mathlib.Omega.{arith}
use borrow.Author.Tests.{lt-ltb, ltb-true, ltb-false, eq-eqb, ne_eqb, not-true}
use lib.Dec.{eqb, ltb}
use lib.ListN.{get_or}
use Rattle.fields.specs.Scan.{first_bad}
use Rattle.fields.proofs.Scan.{bad-is, all-good}
use Rattle.sets.specs.Sets.{has, union, within, Lowest}
use Rattle.sets.proofs.Has.{has_some, none_has, union-has, collect-has}
use Rattle.sets.proofs.Within.{has_within, lacks-within}
use Rattle.sets.proofs.Bounds.{below-lacks}
use Rattle.sets.proofs.Words.{moved-has}
use Rattle.hierarchy.specs.Forest.{Forest, below_in}
use Rattle.hierarchy.specs.Below.{below_sets}
use Rattle.hierarchy.specs.Columns.{column, columns_rule, asked, lacks, Lacked}
use Rattle.hierarchy.proofs.ColumnTurns.{column-has, column-group}

-- ---- truth values
neither : (s t : Bool) → (s || t) ≡ false → (s ≡ false) × (t ≡ false)
neither true t e = absurd (true≢false e)
neither false t e = (refl, e)

either : (s t : Bool) → (s || t) ≡ true → (s ≡ true) ⊎ (t ≡ true)
either true t e = inl refl
either false t e = inr e

lies : (s t : Bool) → (s && not t) ≡ false → s ≡ true → t ≡ true
lies true true e h = refl
lies true false e h = absurd (true≢false e)
lies false t e h = absurd (true≢false (sym h))

-- ---- a set that does not lie where it has to
module _ (f : Forest) (read write default row : ℕ) where
  abbrev wr : Bool
  wr = within write (below_in f read)

  abbrev dr : Bool
  dr = within default (below_in f read)

  abbrev rd : Bool
  rd = within row (below_in f default)

  abbrev ow : Bool
  ow = within row (below_in f write)

  write-out : wr ≡ false → below_sets f read write default row ≡ false
  unfolding below_sets
  write-out e = ap (λ (t : Bool). t && dr && rd && ow) e

  default-out : dr ≡ false → below_sets f read write default row ≡ false
  unfolding below_sets
  default-out e = ap (λ (t : Bool). wr && t && rd && ow) e ∙ ap (λ (t : Bool). t && rd && ow) (and-false wr)

  row_out : rd ≡ false → below_sets f read write default row ≡ false
  unfolding below_sets
  row_out e = ap (λ (t : Bool). wr && dr && t && ow) e ∙ ap (λ (t : Bool). t && ow) (and-false (wr && dr))

  row-out-of-write : ow ≡ false → below_sets f read write default row ≡ false
  unfolding below_sets
  row-out-of-write e = ap (λ (t : Bool). wr && dr && rd && t) e ∙ and-false (wr && dr && rd)

-- ---- the bits whose set sixteen bits above is asked
asked_is : (b : ℕ) → has asked b ≡ (ltb b 64 && eqb (b / 16 % 2) 0)
unfolding asked
asked_is b = collect-has (λ b. eqb (b / 16 % 2) 0) 64 b

asked-even : (b : ℕ) → b < 64 → b / 16 % 2 ≡ 0 → has asked b ≡ true
asked-even b h e = asked_is b ∙ ap₂ (λ (s t : Bool). s && t) (lt-ltb b 64 h) (eq-eqb (b / 16 % 2) 0 e)

asked-odd : (b : ℕ) → (b / 16 % 2 ≡ 0 → ⊥) → has asked b ≡ false
asked-odd b n = asked_is b ∙ ap (λ (t : Bool). ltb b 64 && t) (ne_eqb (b / 16 % 2) 0 n) ∙ and-false (ltb b 64)

module _ (f : Forest) (rows : List ℕ) (r : ℕ) (so : Lacked f rows r) (small : (g : ℕ) → get_or rows g 0 < 2 ^ 64) where
  abbrev set : ℕ → ℕ
  set b = column f.count rows b

  -- a group of a column
  of-column : (b g : ℕ) → has (set b) g ≡ true → (g < f.count) × (has (get_or rows g 0) b ≡ true)
  of-column b g h =
      let q = (and-eq-true_iff (ltb g f.count) (has (get_or rows g 0) b)).0 (sym (column-has f.count rows b g) ∙ h) in
      (ltb-true g f.count q.0, q.1)

  -- ---- no group lacks bit b
  module _ (b : ℕ) (e : has r b ≡ false) where
    clear : (g : ℕ) → g < f.count
        → ((has (get_or rows g 0) (16 + b) && has asked b || has (get_or rows g 0) (32 + b)) && not (has (below_in f (set b)) g)) ≡ false
    unfolding lacks
    clear g h = so.clear b g e h

    next-below : has asked b ≡ true → within (set (16 + b)) (below_in f (set b)) ≡ true
    next-below k =
        has_within (set (16 + b)) (below_in f (set b))
        (λ g h. let q = of-column (16 + b) g h in
        lies (has (get_or rows g 0) (16 + b) && has asked b || has (get_or rows g 0) (32 + b)) (has (below_in f (set b)) g) (clear g q.0)
        (ap₂ (λ (s t : Bool). s && t || has (get_or rows g 0) (32 + b)) q.1 k))

    after-below : within (set (32 + b)) (below_in f (set b)) ≡ true
    after-below =
        has_within (set (32 + b)) (below_in f (set b))
        (λ g h. let q = of-column (32 + b) g h in
        lies (has (get_or rows g 0) (16 + b) && has asked b || has (get_or rows g 0) (32 + b)) (has (below_in f (set b)) g) (clear g q.0)
        (ap (λ (t : Bool). has (get_or rows g 0) (16 + b) && has asked b || t) q.1 ∙ or-true (has (get_or rows g 0) (16 + b) && has asked b)))

  -- every bit of user i is clear
  abbrev Clear : ℕ → Type 0
  Clear i = (has r i ≡ false) × ((has r (16 + i) ≡ false) × (has r (32 + i) ≡ false))

  pub rule-holds : (i : ℕ) → i < 16 → Clear i → columns_rule f rows i ≡ true
  unfolding below_sets
  rule-holds i h none =
      rw (next-below i none.0 (asked-even i (omega arith) (omega arith)), after-below i none.0, row-default, row_write)
    where
      row-default : within (set (48 + i)) (below_in f (set (32 + i))) ≡ true
      row-default =
          let is : 48 + i ≡ 16 + (32 + i) = omega arith in
          ap (λ (b : ℕ). within (set b) (below_in f (set (32 + i)))) is
          ∙ next-below (32 + i) none.1.1 (asked-even (32 + i) (omega arith) (omega arith))

      row_write : within (set (48 + i)) (below_in f (set (16 + i))) ≡ true
      row_write =
          let is : 48 + i ≡ 32 + (16 + i) = omega arith in
          ap (λ (b : ℕ). within (set b) (below_in f (set (16 + i)))) is ∙ after-below (16 + i) none.1.0

  -- ---- some group lacks bit b
  broken : (b : ℕ) → has r b ≡ true
      → ((has asked b ≡ true) × (within (set (16 + b)) (below_in f (set b)) ≡ false)) ⊎ (within (set (32 + b)) (below_in f (set b)) ≡ false)
  unfolding lacks
  broken b e =
      let q = so.found b e in
      let g = q.0 in
      let h = q.1.0 in
      let both =
      (and-eq-true_iff (has (get_or rows g 0) (16 + b) && has asked b || has (get_or rows g 0) (32 + b)) (not (has (below_in f (set b)) g))).0 q.1.1 in
      let lost = not-true (has (below_in f (set b)) g) both.1 in
      ⊎_elim
      (λ k. let two = (and-eq-true_iff (has (get_or rows g 0) (16 + b)) (has asked b)).0 k in
      inl (two.1, lacks-within (set (16 + b)) (below_in f (set b)) g (column-group f.count rows (16 + b) g h ∙ two.0) lost))
      (λ k. inr (lacks-within (set (32 + b)) (below_in f (set b)) g (column-group f.count rows (32 + b) g h ∙ k) lost))
      (either (has (get_or rows g 0) (16 + b) && has asked b) (has (get_or rows g 0) (32 + b)) both.0)

  -- a column past bit 63 is empty, so that it lies below everything
  past : (b t : ℕ) → 64 ≤ b → within (set b) (below_in f t) ≡ true
  past b t h =
      has_within (set b) (below_in f t)
      (λ g k. absurd (true≢false (sym (of-column b g k).1 ∙ below-lacks (get_or rows g 0) 64 (small g) b h)))

  -- the three bits of user i
  module _ (i : ℕ) (low : i < 16) where
    abbrev bad : Type 0
    bad = columns_rule f rows i ≡ false

    read-bit : has r i ≡ true → bad
    read-bit e =
        ⊎_elim (λ k. write-out f (set i) (set (16 + i)) (set (32 + i)) (set (48 + i)) k.1)
        (default-out f (set i) (set (16 + i)) (set (32 + i)) (set (48 + i))) (broken i e)

    write-bit : has r (16 + i) ≡ true → bad
    write-bit e =
        ⊎_elim (λ k. absurd (true≢false (sym k.0 ∙ asked-odd (16 + i) (omega arith))))
        (λ k.
        let is : 48 + i ≡ 32 + (16 + i) = omega arith in
        row-out-of-write f (set i) (set (16 + i)) (set (32 + i)) (set (48 + i))
        (ap (λ (b : ℕ). within (set b) (below_in f (set (16 + i)))) is ∙ k))
        (broken (16 + i) e)

    default-bit : has r (32 + i) ≡ true → bad
    default-bit e =
        ⊎_elim
        (λ k.
        let is : 48 + i ≡ 16 + (32 + i) = omega arith in
        row_out f (set i) (set (16 + i)) (set (32 + i)) (set (48 + i)) (ap (λ (b : ℕ). within (set b) (below_in f (set (32 + i)))) is ∙ k.1))
        (λ k. absurd (true≢false (sym (past (32 + (32 + i)) (set (32 + i)) (omega arith)) ∙ k))) (broken (32 + i) e)

  -- no bit from 48 on is set
  no_more : (b : ℕ) → 48 ≤ b → has r b ≡ false
  no_more b h = at (has r b) refl
    where
      at : (t : Bool) → has r b ≡ t → t ≡ false
      at true e =
          absurd
          (⊎_elim (λ k. true≢false (sym (past (16 + b) (set b) (omega arith)) ∙ k.1)) (λ k. true≢false (sym (past (32 + b) (set b) (omega arith)) ∙ k))
          (broken b e))
      at false e = refl

  -- ---- the lowest user
  pub lowest-none : r ≡ 0 → 16 ≡ first_bad (columns_rule f rows) 16 0
  lowest-none e = sym (all-good (columns_rule f rows) 16 0 (λ i low high. rule-holds i (omega arith) (lacks-all i, (lacks-all (16 + i), lacks-all (32 + i)))))
    where
      lacks-all : (b : ℕ) → has r b ≡ false
      lacks-all b = ap (λ (x : ℕ). has x b) e ∙ none_has b

  module _ (p : ℕ) (lowest : Lowest 64 (union (union r (r / 2 ^ 16)) (r / 2 ^ 32)) p) (some : r ≡ 0 → ⊥) where
    abbrev all : ℕ
    all = union (union r (r / 2 ^ 16)) (r / 2 ^ 32)

    folded : (b : ℕ) → has all b ≡ (has r b || has r (16 + b) || has r (32 + b))
    folded b =
        union-has (union r (r / 2 ^ 16)) (r / 2 ^ 32) b
        ∙ ap₂ (λ (s t : Bool). s || t) (union-has r (r / 2 ^ 16) b ∙ ap (λ (t : Bool). has r b || t) (moved-has r 16 b)) (moved-has r 32 b)

    -- a bit of r is one of a user's, so the lowest is a user
    first-user : (q i : ℕ) → i < 16 → (q ≡ i) ⊎ ((q ≡ 16 + i) ⊎ (q ≡ 32 + i)) → has r q ≡ true → p < 16
    first-user q i h is e = lt_of_not-le (λ l. true≢false (sym (folded i ∙ at is) ∙ lowest.lower i (omega arith)))
      where
        at : (q ≡ i) ⊎ ((q ≡ 16 + i) ⊎ (q ≡ 32 + i)) → (has r i || has r (16 + i) || has r (32 + i)) ≡ true
        at =
            ⊎_elim (λ k. ap (λ (t : Bool). t || has r (16 + i) || has r (32 + i)) (ap (has r) (sym k) ∙ e))
            (⊎_elim
            (λ k. ap (λ (t : Bool). has r i || t || has r (32 + i)) (ap (has r) (sym k) ∙ e) ∙ ap (λ (t : Bool). t || has r (32 + i)) (or-true (has r i)))
            (λ k. ap (λ (t : Bool). has r i || has r (16 + i) || t) (ap (has r) (sym k) ∙ e) ∙ or-true (has r i || has r (16 + i))))

    inside : p < 16
    inside =
        let q = has_some r some in
        let small : q.0 < 48 = lt_of_not-le (λ l. true≢false (sym q.1 ∙ no_more q.0 l)) in
        at q.0 q.1 small (ltb q.0 16) refl (ltb q.0 32) refl
      where
        at : (q : ℕ) → has r q ≡ true → q < 48 → (s : Bool) → ltb q 16 ≡ s → (t : Bool) → ltb q 32 ≡ t → p < 16
        at q h l true a t b = first-user q q (ltb-true q 16 a) (inl refl) h
        at q h l false a true b =
            let low = ltb-false q 16 a in
            let high = ltb-true q 32 b in
            first-user q (q - 16) (omega arith) (inr (inl (omega arith))) h
        at q h l false a false b =
            let low = ltb-false q 32 b in
            first-user q (q - 32) (omega arith) (inr (inr (omega arith))) h

    pub lowest-is : p ≡ first_bad (columns_rule f rows) 16 0
    lowest-is = sym (bad-is (columns_rule f rows) 16 0 p (omega arith) inside before at)
      where
        before : (j : ℕ) → 0 ≤ j → j < p → columns_rule f rows j ≡ true
        before j low h =
            let l = inside in
            let two = neither (has r j || has r (16 + j)) (has r (32 + j)) (sym (folded j) ∙ lowest.lower j h) in
            let one = neither (has r j) (has r (16 + j)) two.0 in
            rule-holds j (omega arith) (one.0, (one.1, two.1))

        at : columns_rule f rows p ≡ false
        at =
            let l = inside in
            ⊎_elim (λ k. ⊎_elim (read-bit p l) (write-bit p l) (either (has r p) (has r (16 + p)) k)) (default-bit p l)
            (either (has r p || has r (16 + p)) (has r (32 + p)) (sym (folded p) ∙ lowest.here (omega arith)))
