-- Laws of lanes, each of which holds two columns of half a block. Assumes nothing.
use Rattle.std.proofs.Common.{◌≡◌, ℕ, zero, suc, ◌+◌, ◌-◌, ◌*◌, ◌/◌, ◌%◌, ◌<◌, ◌≤◌, Bool, true, false, ltb, List, [], ◌∷◌, length, get_or, set, replicate, sym, refl, ap, ◌∙◌, subst, ap₂, add-zero, add_assoc, arith, length-set, get_or-set_other, get_or-set_same, ltb-false, ltb-true}
use native.Mathlib.Nat.{add-mod}
use lib.ListN.{get_or-replicate}
use Rattle.fields.specs.Bytes.{byte_at}
use Rattle.blocks.specs.Columns.{cell, Column, even_of, lane, column_in, once_at, often_at, Columned, Small, term_of, column_once}
use Rattle.blocks.specs.declared.columns.Columns.{Columns}
use Rattle.blocks.proofs.Cells.{column-none, column-next, column-small}

-- ---- the even column's number
-- it is the one below 65,536 that gives `mixed` with 256 times the odd column's
even-back : (m o : ℕ) → (even_of m o + 256 * o) % 65536 ≡ m % 65536
unfolding even_of
even-back m o = omega arith

even-only : (m o e : ℕ) → e < 65536 → (e + 256 * o) % 65536 ≡ m → even_of m o ≡ e
unfolding even_of
even-only m o e small h = omega arith

-- so lanes may be added as long as the even columns' numbers fit 16 bits
pub even-add : (m o n p : ℕ) → even_of m o + even_of n p < 65536 → even_of ((m + n) % 65536) (o + p) ≡ even_of m o + even_of n p
even-add m o n p small =
    let e = even_of m o in
    let f = even_of n p in
    let apart : e + f + 256 * (o + p) ≡ e + 256 * o + (f + 256 * p) = omega arith in
    even-only ((m + n) % 65536) (o + p) (e + f) small
    (ap (λ (k : ℕ). k % 65536) apart ∙ add-mod (e + 256 * o) (f + 256 * p) 65536
    ∙ ap₂ (λ (x y : ℕ). (x + y) % 65536) (even-back m o) (even-back n p) ∙ sym (add-mod m n 65536))

-- of two bytes read as one number it is the lower
even-pair : (x : ℕ) → x < 65536 → even_of x (x / 256) ≡ x % 256
unfolding even_of
even-pair x small = omega arith

-- ---- a column of a list of lanes
column-at : (m o : List ℕ) (i c : ℕ) → c < 2 → column_in m o (2 * i + c) ≡ get_or (lane (get_or m i 0) (get_or o i 0)) c 0
unfolding column_in
column-at m o i c h =
    let lane-there : (2 * i + c) / 2 ≡ i = omega arith in
    let side : (2 * i + c) % 2 ≡ c = omega arith in
    rw (lane-there, side)

pub even-at : (m o : List ℕ) (i : ℕ) → column_in m o (2 * i) ≡ even_of (get_or m i 0) (get_or o i 0)
even-at m o i = ap (column_in m o) (sym (add-zero (2 * i))) ∙ column-at m o i 0 (omega arith)

pub odd-at : (m o : List ℕ) (i : ℕ) → column_in m o (2 * i + 1) ≡ get_or o i 0
odd-at m o i = column-at m o i 1 (omega arith)

-- one lane set: its columns, and all others
column-other : (m o : List ℕ) (i j v w : ℕ) → (j / 2 ≡ i → ⊥) → column_in (set m i v) (set o i w) j ≡ column_in m o j
unfolding column_in
column-other m o i j v w other = rw (get_or-set_other m i (j / 2) v 0 other, get_or-set_other o i (j / 2) w 0 other)

column-add : (m o : List ℕ) (i c n p v : ℕ) → i < length m → i < length o → c < 2 → v ≡ (get_or m i 0 + n) % 65536
    → column_in m o (2 * i) + even_of n p < 65536
    → column_in (set m i v) (set o i (get_or o i 0 + p)) (2 * i + c) ≡ column_in m o (2 * i + c) + get_or (lane n p) c 0
column-add m o i c n p v inM in_o h e small =
    column-at _ _ i c h
    ∙ ap₂ (λ (x y : ℕ). get_or (lane x y) c 0) (get_or-set_same m i v 0 inM ∙ e) (get_or-set_same o i (get_or o i 0 + p) 0 in_o)
    ∙ by_side c h ∙ ap (λ (k : ℕ). k + get_or (lane n p) c 0) (sym (column-at m o i c h))
  where
    by_side : (c : ℕ) → c < 2
        → get_or (lane ((get_or m i 0 + n) % 65536) (get_or o i 0 + p)) c 0 ≡ get_or (lane (get_or m i 0) (get_or o i 0)) c 0 + get_or (lane n p) c 0
    by_side zero h = even-add (get_or m i 0) (get_or o i 0) n p (subst (λ (k : ℕ). k + even_of n p < 65536) (even-at m o i) small)
    by_side (suc zero) h = refl
    by_side (suc (suc c)) h = absurd (omega arith)

-- ---- no rows yet
none-at : (j : ℕ) → j < 16 → column_in (replicate 8 0) (replicate 8 0) j ≡ 0
unfolding column_in even_of
none-at j h = rw (get_or-replicate {A = ℕ} 8 (j / 2) 0 0 (omega arith)) (get_or-replicate {A = ℕ} 2 (j % 2) 0 0 (omega arith))

pub columned-none : (half : List ℕ)
    → Columned half 0 record { mixed = replicate 8 0; odd = replicate 8 0; mixed_above = replicate 8 0; odd_above = replicate 8 0 }
columned-none half = record { long = (refl, refl); long_above = (refl, refl); column = λ j h. rw (none-at j h) (column-none half j) }

-- ---- the loop over the lanes of a row: the columns before lane i have the row, the others not yet
pub record Adding (half : List ℕ) (r i : ℕ) (s : Columns) : Type 0 where
  pub long : (length s.mixed ≡ 8) × (length s.odd ≡ 8)
  pub long_above : (length s.mixed_above ≡ 8) × (length s.odd_above ≡ 8)
  pub done : (j : ℕ) → j < 2 * i → Column half (r + 1) j (once_at s j) (often_at s j)
  pub left : (j : ℕ) → 2 * i ≤ j → j < 16 → Column half r j (once_at s j) (often_at s j)

pub adding-start : {half : List ℕ} {r : ℕ} {s : Columns} → Columned half r s → Adding half r 0 s
adding-start {half} {r} {s} k =
    record { long = k.long; long_above = k.long_above; done = λ j h. absurd (omega arith); left = λ j from to. k.column j to }

pub adding-end : {half : List ℕ} {r i : ℕ} {s : Columns} → 8 ≤ i → Adding half r i s → Columned half (r + 1) s
adding-end {half} {r} {i} {s} h k = record { long = k.long; long_above = k.long_above; column = λ j to. k.done j (omega arith) }

module _ (half : List ℕ) (r i : ℕ) (s : Columns) (row : r < 16) (here : i < 8) (k : Adding half r i s) where
  small_at : (c : ℕ) → c < 2 → (once_at s (2 * i + c) ≤ 4080) × (often_at s (2 * i + c) ≤ 30600)
  small_at c h = column-small half r (2 * i + c) _ _ (omega arith) (k.left (2 * i + c) (omega arith) (omega arith))

  -- the odd column's numbers have room for one row more
  pub adding-room : (get_or s.odd i 0 ≤ 4080) × (get_or s.odd_above i 0 ≤ 30600)
  adding-room = let small = small_at 1 (omega arith) in (
    omega (arith, odd-at s.mixed s.odd i),
    omega (arith, odd-at s.mixed_above s.odd_above i),
  )

  -- one lane more: x is the two bytes of the row there
  module _ (x u v : ℕ) (fits : x < 65536) (low : x % 256 ≡ byte_at half (16 * r + 2 * i)) (high : x / 256 ≡ byte_at half (16 * r + 2 * i + 1))
      (once : v ≡ (get_or s.mixed i 0 + x) % 65536) (often : u ≡ (get_or s.mixed_above i 0 + get_or s.mixed i 0) % 65536) where
    abbrev next : Columns
    next =
        record {
          mixed = set s.mixed i v;
          odd = set s.odd i (get_or s.odd i 0 + x / 256);
          mixed_above = set s.mixed_above i u;
          odd_above = set s.odd_above i (get_or s.odd_above i 0 + get_or s.odd i 0);
        }

    byte : (c : ℕ) → c < 2 → (get_or (lane x (x / 256)) c 0 ≡ cell half (2 * i + c) r) × (get_or (lane x (x / 256)) c 0 < 256)
    byte zero h = (
      even-pair x fits ∙ low ∙ ap (λ (j : ℕ). cell half j r) (sym (add-zero (2 * i))),
      subst (λ (n : ℕ). n < 256) (sym (even-pair x fits)) (omega arith),
    )
    byte (suc zero) h = (high ∙ ap (byte_at half) (add_assoc (16 * r) (2 * i) 1), omega arith)
    byte (suc (suc c)) h = absurd (omega arith)

    here-small : (once_at s (2 * i) ≤ 4080) × (often_at s (2 * i) ≤ 30600)
    here-small = subst (λ (j : ℕ). (once_at s j ≤ 4080) × (often_at s j ≤ 30600)) (add-zero (2 * i)) (small_at 0 (omega arith))

    new : (c : ℕ) → c < 2 → Column half (r + 1) (2 * i + c) (once_at next (2 * i + c)) (often_at next (2 * i + c))
    new c h =
        let small = here-small in
        let again = even-at s.mixed s.odd i in
        let first =
        column-add s.mixed s.odd i c x (x / 256) v (omega (arith, k.long.0)) (omega (arith, k.long.1)) h once (omega (arith, even-pair x fits)) in
        let second =
        column-add s.mixed_above s.odd_above i c (get_or s.mixed i 0) (get_or s.odd i 0) u (omega (arith, k.long_above.0))
        (omega (arith, k.long_above.1)) h often (omega arith) in
        rw (first, second, ← column-at s.mixed s.odd i c h)
        (column-next half r (2 * i + c) _ _ _ (byte c h).0 (byte c h).1 (k.left (2 * i + c) (omega arith) (omega arith)))

    other : (q j : ℕ) → (j / 2 ≡ i → ⊥) → Column half q j (once_at s j) (often_at s j) → Column half q j (once_at next j) (often_at next j)
    other q j apart h = rw (column-other s.mixed s.odd i j _ _ apart, column-other s.mixed_above s.odd_above i j _ _ apart) h

    pub adding-next : Adding half r (i + 1) next
    adding-next =
        record {
          long = (length-set s.mixed i _ ∙ k.long.0, length-set s.odd i _ ∙ k.long.1);
          long_above = (length-set s.mixed_above i _ ∙ k.long_above.0, length-set s.odd_above i _ ∙ k.long_above.1);
          done = λ j to. at j to (ltb j (2 * i)) refl;
          left = λ j from to. other r j (λ q. omega arith) (k.left j (omega arith) to);
        }
      where
        at : (j : ℕ) → j < 2 * (i + 1) → (t : Bool) → ltb j (2 * i) ≡ t → Column half (r + 1) j (once_at next j) (often_at next j)
        at j to true q =
            let before : j < 2 * i = ltb-true j (2 * i) q in
            other (r + 1) j (λ e. omega arith) (k.done j before)
        at j to false q =
            let from : 2 * i ≤ j = ltb-false j (2 * i) q in
            let same : 2 * i + (j - 2 * i) ≡ j = omega arith in
            subst (λ (n : ℕ). Column half (r + 1) n (once_at next n) (often_at next n)) same (new (j - 2 * i) (omega arith))

-- ---- a list of eight whose first n elements are filled in
pub record Filled (f : ℕ → ℕ) (n : ℕ) (l : List ℕ) : Type 0 where
  pub long : length l ≡ 8
  pub filled : (k : ℕ) → k < n → (get_or l k 0 ≡ f k) × (get_or l k 0 ≤ 39780)

pub filled_none : (f : ℕ → ℕ) → Filled f 0 (replicate 8 0)
filled_none f = record { long = refl; filled = λ k h. absurd (omega arith) }

pub filled_next : {f : ℕ → ℕ} {n x : ℕ} {l : List ℕ} → n < 8 → x ≡ f n → x ≤ 39780 → Filled f n l → Filled f (n + 1) (set l n x)
filled_next {f} {n} {x} {l} h e low k = record { long = length-set l n x ∙ k.long; filled = λ j to. at j to (ltb j n) refl }
  where
    at : (j : ℕ) → j < n + 1 → (t : Bool) → ltb j n ≡ t → (get_or (set l n x) j 0 ≡ f j) × (get_or (set l n x) j 0 ≤ 39780)
    at j to true q =
        let before : j < n = ltb-true j n q in
        rw (get_or-set_other l n j x 0 (λ e. omega arith)) (k.filled j before)
    at j to false q =
        let from : n ≤ j = ltb-false j n q in
        let same : n ≡ j = omega arith in
        subst (λ (m : ℕ). (get_or (set l n x) m 0 ≡ f m) × (get_or (set l n x) m 0 ≤ 39780)) same
        (rw (get_or-set_same l n x 0 (omega (arith, k.long))) (e, low))

-- ---- the lanes of both halves together
-- what a column's term is asked to be made of
abbrev pub Fit : ℕ → ℕ → ℕ → Type 0
Fit once often second = (once ≤ 8160) × ((often ≤ 61200) × (second ≤ 4080))

both_small : (one two : Columns) → Small one × Small two → (j : ℕ) → j < 16 → Fit (column_once one two j) (often_at one j + often_at two j) (once_at two j)
both_small one two small j h =
    let low = small.1.low j h in
    let high = small.1.high j h in
    (omega (arith, small.0.low j h), (omega (arith, small.0.high j h), low))

even-both : (m n o p : List ℕ) (i v : ℕ) → v ≡ (get_or m i 0 + get_or n i 0) % 65536 → column_in m o (2 * i) + column_in n p (2 * i) < 65536
    → even_of v (get_or o i 0 + get_or p i 0) ≡ column_in m o (2 * i) + column_in n p (2 * i)
even-both m n o p i v e small =
    let both = ap₂ ◌+◌ (even-at m o i) (even-at n p i) in
    ap (λ (k : ℕ). even_of k (get_or o i 0 + get_or p i 0)) e
    ∙ even-add (get_or m i 0) (get_or o i 0) (get_or n i 0) (get_or p i 0) (subst (λ (k : ℕ). k < 65536) both small) ∙ sym both

module _ (one two : Columns) (small : Small one × Small two) (i : ℕ) (h : i < 8) where
  pub even-small : Fit (column_once one two (2 * i)) (often_at one (2 * i) + often_at two (2 * i)) (once_at two (2 * i))
  even-small = both_small one two small (2 * i) (omega arith)

  pub even-once : (v : ℕ) → v ≡ (get_or one.mixed i 0 + get_or two.mixed i 0) % 65536
      → even_of v (get_or one.odd i 0 + get_or two.odd i 0) ≡ column_once one two (2 * i)
  even-once v e = even-both one.mixed two.mixed one.odd two.odd i v e (omega (arith, even-small.0))

  pub even-often : (v : ℕ) → v ≡ (get_or one.mixed_above i 0 + get_or two.mixed_above i 0) % 65536
      → even_of v (get_or one.odd_above i 0 + get_or two.odd_above i 0) ≡ often_at one (2 * i) + often_at two (2 * i)
  even-often v e =
      even-both one.mixed_above two.mixed_above one.odd_above two.odd_above i v e (omega (arith, even-small.1.0))

  pub odd-once : get_or one.odd i 0 + get_or two.odd i 0 ≡ column_once one two (2 * i + 1)
  odd-once = sym (ap₂ ◌+◌ (odd-at one.mixed one.odd i) (odd-at two.mixed two.odd i))

  pub odd-often : get_or one.odd_above i 0 + get_or two.odd_above i 0 ≡ often_at one (2 * i + 1) + often_at two (2 * i + 1)
  odd-often = sym (ap₂ ◌+◌ (odd-at one.mixed_above one.odd_above i) (odd-at two.mixed_above two.odd_above i))

  pub odd-small : Fit (get_or one.odd i 0 + get_or two.odd i 0) (get_or one.odd_above i 0 + get_or two.odd_above i 0) (get_or two.odd i 0)
  odd-small = rw (odd-once, odd-often, ← odd-at two.mixed two.odd i) (both_small one two small (2 * i + 1) (omega arith))

pub term-same : {a a' b b' w w' d d' : ℕ} → a ≡ a' → b ≡ b' → w ≡ w' → d ≡ d' → term_of a b w d ≡ term_of a' b' w' d'
term-same e f g h = rw (e, f, g, h) refl

-- how often the even column of each lane counts
abbrev pub weights : List ℕ
weights = 15 ∷ 13 ∷ 11 ∷ 9 ∷ 7 ∷ 5 ∷ 3 ∷ 1 ∷ []

pub weight-at : (i : ℕ) → i < 8 → get_or weights i 0 ≡ 15 - 2 * i
weight-at zero h = refl
weight-at (suc zero) h = refl
weight-at (suc (suc zero)) h = refl
weight-at (suc (suc (suc zero))) h = refl
weight-at (suc (suc (suc (suc zero)))) h = refl
weight-at (suc (suc (suc (suc (suc zero))))) h = refl
weight-at (suc (suc (suc (suc (suc (suc zero)))))) h = refl
weight-at (suc (suc (suc (suc (suc (suc (suc zero))))))) h = refl
weight-at (suc (suc (suc (suc (suc (suc (suc (suc i)))))))) h = absurd (omega arith)
