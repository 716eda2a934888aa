-- A square of 64 rows is transposed in six steps: where each bit of a step's rows comes from, and that the six give the transposed square.
-- A stage takes two of them. Assumes nothing.
use Prim.Native.Nat.{ℕ, zero, suc, ◌+◌, ◌-◌, ◌*◌, ◌/◌, ◌%◌, ◌<◌, ◌≤◌}
use mathlib.Core.Path.{◌≡◌, refl, sym, ap, ap₂, ◌∙◌}
use mathlib.Core.Bool.{Bool, true, false, cond}
use mathlib.Core.List.{List, [], ◌∷◌}
use native.Mathlib.Nat.{add-zero, zero-add, add-mul, mul_assoc, mul_comm, mul-le-mul_right, mod-lt, div-add-mod', div-div-eq-div-mul}
use native.Mathlib.Nat.{zero-lt-suc, le_of_suc-le-suc}
use native.Mathlib.Omega.{arith}
use borrow.Author.Tests.{eqb-true, eqb-false, eq-eqb, ne_eqb}
use lib.Arith.{digits_div, digits_mod, mod-mul}
use lib.Dec.{eqb}
use lib.ListN.{get_or}
use Rattle.sets.specs.Sets.{has}
use Rattle.sets.specs.Transposed.{low_row, high_row, Staged}
use Rattle.sets.proofs.Masks.{Fits, in-mask, off-mask, low-in, low-off, high-in, high-off, fits-32, fits_16, fits_8, fits-4, fits-2, fits-1}

-- ---- where a stage takes bit p of row j from: bit p' of row j'
pub record From (s j p j' p' : ℕ) : Type 0 where
  pub row : j' ≡ j / 2 + 32 * (p / s % 2)
  pub place : p' + p / s % 2 * s ≡ p + j % 2 * s
  pub rows : j' < 64
  pub places : p' < 64

-- one step alone: rows i and i + 32 become rows 2 i and 2 i + 1
pub record Step (s mask : ℕ) (before after : List ℕ) : Type 0 where
  pub low : (i : ℕ) → i < 32 → get_or after (2 * i) 0 ≡ low_row s mask (get_or before i 0) (get_or before (i + 32) 0)
  pub high : (i : ℕ) → i < 32 → get_or after (2 * i + 1) 0 ≡ high_row s mask (get_or before i 0) (get_or before (i + 32) 0)

module _ (s mask : ℕ) (before after : List ℕ) (fits : Fits s mask) (so : Step s mask before after) where
  abbrev Taken : ℕ → ℕ → Type 0
  Taken j p = (j' : ℕ) × ((p' : ℕ) × (From s j p j' p' × (has (get_or after j 0) p ≡ has (get_or before j' 0) p')))

  from_low : (j p : ℕ) → j < 64 → p < 64 → j % 2 ≡ 0 → (t : Bool) → has mask p ≡ t → Taken j p
  from_low j p h k even t m = at t m
    where
      i : ℕ
      i = j / 2

      here : get_or after j 0 ≡ low_row s mask (get_or before i 0) (get_or before (i + 32) 0)
      here = let is : j ≡ 2 * (j / 2) = omega arith in ap (λ (x : ℕ). get_or after x 0) is ∙ so.low i (omega arith)

      at : (t : Bool) → has mask p ≡ t → Taken j p
      at true m =
          let in' = in-mask s mask p (fits p k) m in (
            i,
            (
              p,
              (
                record { row = rw in'.0 (omega arith); place = rw (in'.0, even) refl; rows = omega arith; places = k },
                ap (λ (x : ℕ). has x p) here ∙ low-in s mask p (get_or before i 0) (get_or before (i + 32) 0) k (fits p k) m,
              ),
            ),
          )
      at false m =
          let off = off-mask s mask p (fits p k) m in
          let l = off.1.0 in (
            i + 32,
            (
              p - s,
              (
                record { row = rw off.0 (omega arith); place = rw (off.0, even) (omega arith); rows = omega arith; places = omega arith },
                ap (λ (x : ℕ). has x p) here ∙ low-off s mask p (get_or before i 0) (get_or before (i + 32) 0) k (fits p k) m,
              ),
            ),
          )

  from-high : (j p : ℕ) → j < 64 → p < 64 → j % 2 ≡ 1 → (t : Bool) → has mask p ≡ t → Taken j p
  from-high j p h k odd t m = at t m
    where
      i : ℕ
      i = j / 2

      here : get_or after j 0 ≡ high_row s mask (get_or before i 0) (get_or before (i + 32) 0)
      here = let is : j ≡ 2 * (j / 2) + 1 = omega arith in ap (λ (x : ℕ). get_or after x 0) is ∙ so.high i (omega arith)

      at : (t : Bool) → has mask p ≡ t → Taken j p
      at true m =
          let in' = in-mask s mask p (fits p k) m in (
            i,
            (
              p + s,
              (
                record { row = rw in'.0 (omega arith); place = rw (in'.0, odd) (omega arith); rows = omega arith; places = in'.1.0 },
                ap (λ (x : ℕ). has x p) here ∙ high-in s mask p (get_or before i 0) (get_or before (i + 32) 0) k (fits p k) m,
              ),
            ),
          )
      at false m =
          let off = off-mask s mask p (fits p k) m in (
            i + 32,
            (
              p,
              (
                record { row = rw off.0 (omega arith); place = rw (off.0, odd) refl; rows = omega arith; places = k },
                ap (λ (x : ℕ). has x p) here ∙ high-off s mask p (get_or before i 0) (get_or before (i + 32) 0) k (fits p k) m,
              ),
            ),
          )

  pub taken : (j p : ℕ) → j < 64 → p < 64 → Taken j p
  taken j p h k = at (eqb (j % 2) 0) refl
    where
      at : (t : Bool) → eqb (j % 2) 0 ≡ t → Taken j p
      at true e = from_low j p h k (eqb-true (j % 2) 0 e) (has mask p) refl
      at false e = let odd : j % 2 ≡ 1 = omega (arith, eqb-false (j % 2) 0 e) in from-high j p h k odd (has mask p) refl

-- ---- stage after stage: bit p of row j is bit `place j p` of row `row j p` of the first rows
abbrev pub Held : (row place : ℕ → ℕ → ℕ) (first rows : List ℕ) → Type 0
Held row place first rows = (j p : ℕ) → j < 64 → p < 64 → has (get_or rows j 0) p ≡ has (get_or first (row j p) 0) (place j p)

held_next : (s mask : ℕ) (first before after : List ℕ) (row place row' place' : ℕ → ℕ → ℕ) → Fits s mask → Step s mask before after
    → Held row place first before → ((j p j' p' : ℕ) → From s j p j' p' → (row j' p' ≡ row' j p) × (place j' p' ≡ place' j p))
    → Held row' place' first after
held_next s mask first before after row place row' place' fits so held same j p h k =
    let q = taken s mask before after fits so j p h k in
    let from = q.1.1.0 in
    let are = same j p q.0 q.1.0 from in
    q.1.1.1 ∙ held q.0 q.1.0 from.rows from.places ∙ ap₂ (λ (x y : ℕ). has (get_or first x 0) y) are.0 are.1

-- before the stage by s the digits of p above those of 2 s, and of j below those of u, are exchanged
module _ (s u : ℕ) (some : 0 < s) (more : 0 < u) (all : s * u ≡ 32) where
  -- two digits as one
  joint : (x d : ℕ) → (x * 2 + d) * s ≡ x * (s * 2) + d * s
  joint x d = add-mul (x * 2) d s ∙ ap (λ (y : ℕ). y + d * s) (mul_assoc x 2 s ∙ ap (λ (y : ℕ). x * y) (mul_comm 2 s))

  module _ (j p j' p' : ℕ) (f : From s j p j' p') where
    high-digits : p / s * s ≡ p / (s * 2) * (s * 2) + p / s % 2 * s
    high-digits =
        ap (λ (x : ℕ). x * s) (sym (div-add-mod' (p / s) 2)) ∙ joint (p / s / 2) (p / s % 2)
        ∙ ap (λ (x : ℕ). x * (s * 2) + p / s % 2 * s) (div-div-eq-div-mul p s 2)

    is-place : p' ≡ p / (s * 2) * (s * 2) + (j % 2 * s + p % s)
    is-place = omega (arith, f.place, div-add-mod' p s, high-digits)

    small : j % 2 * s + p % s < s * 2
    small = let e : j % 2 ≤ 1 = omega arith in omega (arith, mul-le-mul_right s e, mod-lt p some)

    is_row : j' ≡ (j / 2 / u + p / s % 2 * s) * u + j / 2 % u
    is_row =
        let d = p / s % 2 in
        let more : d * s * u ≡ d * 32 = mul_assoc d s u ∙ ap (λ (x : ℕ). d * x) all in
        omega (arith, f.row, div-add-mod' (j / 2) u, add-mul (j / 2 / u) (d * s) u, more)

    exchanged : (p' / (s * 2) * (s * 2) + j' / u ≡ p / s * s + j / (2 * u)) × (j' % u * (s * 2) + p' % (s * 2) ≡ j % (u * 2) * s + p % s)
    exchanged =
        let above = ap (λ (x : ℕ). x / (s * 2)) is-place ∙ digits_div (p / (s * 2)) small in
        let below = ap (λ (x : ℕ). x % (s * 2)) is-place ∙ digits_mod (p / (s * 2)) small in
        let rest = mod-lt (j / 2) more in
        let front = ap (λ (x : ℕ). x / u) is_row ∙ digits_div (j / 2 / u + p / s % 2 * s) rest in
        let back = ap (λ (x : ℕ). x % u) is_row ∙ digits_mod (j / 2 / u + p / s % 2 * s) rest in
        let place : j % (u * 2) * s ≡ j / 2 % u * (s * 2) + j % 2 * s = ap (λ (x : ℕ). x * s) (mod-mul j more (zero-lt-suc 1)) ∙ joint (j / 2 % u) (j % 2) in (
          ap₂ (λ (x y : ℕ). x * (s * 2) + y) above front ∙ omega (arith, high-digits, div-div-eq-div-mul j 2 u),
          ap₂ (λ (x y : ℕ). x * (s * 2) + y) back below ∙ omega (arith, place),
        )

  pub held_stage : (mask : ℕ) (first before after : List ℕ) → Fits s mask → Step s mask before after
      → Held (λ j p. p / (s * 2) * (s * 2) + j / u) (λ j p. j % u * (s * 2) + p % (s * 2)) first before
      → Held (λ j p. p / s * s + j / (2 * u)) (λ j p. j % (u * 2) * s + p % s) first after
  held_stage mask first before after fits so held =
      held_next s mask first before after (λ j p. p / (s * 2) * (s * 2) + j / u) (λ j p. j % u * (s * 2) + p % (s * 2))
      (λ j p. p / s * s + j / (2 * u)) (λ j p. j % (u * 2) * s + p % s) fits so held exchanged

six-stages : (r0 r1 r2 r3 r4 r5 r6 : List ℕ) → Step 32 0x00000000ffffffff r0 r1 → Step 16 0x0000ffff0000ffff r1 r2
    → Step 8 0x00ff00ff00ff00ff r2 r3 → Step 4 0x0f0f0f0f0f0f0f0f r3 r4 → Step 2 0x3333333333333333 r4 r5
    → Step 1 0x5555555555555555 r5 r6 → (i j : ℕ) → i < 64 → j < 64 → has (get_or r6 i 0) j ≡ has (get_or r0 j 0) i
six-stages r0 r1 r2 r3 r4 r5 r6 s1 s2 s3 s4 s5 s6 i j h k =
    last i j h k ∙ ap₂ (λ (x y : ℕ). has (get_or r0 x 0) y) (omega arith) (omega arith)
  where
    none_yet : Held (λ j p. p / 64 * 64 + j / 1) (λ j p. j % 1 * 64 + p % 64) r0 r0
    none_yet j p h k =
        let row : j ≡ p / 64 * 64 + j / 1 = omega arith in
        let place : p ≡ j % 1 * 64 + p % 64 = omega arith in
        ap₂ (λ (x y : ℕ). has (get_or r0 x 0) y) row place

    last : Held (λ j p. p / 1 * 1 + j / 64) (λ j p. j % 64 * 1 + p % 1) r0 r6
    last =
        held_stage 1 32 (omega arith) (omega arith) refl 0x5555555555555555 r0 r5 r6 fits-1 s6
        (held_stage 2 16 (omega arith) (omega arith) refl 0x3333333333333333 r0 r4 r5 fits-2 s5
        (held_stage 4 8 (omega arith) (omega arith) refl 0x0f0f0f0f0f0f0f0f r0 r3 r4 fits-4 s4
        (held_stage 8 4 (omega arith) (omega arith) refl 0x00ff00ff00ff00ff r0 r2 r3 fits_8 s3
        (held_stage 16 2 (omega arith) (omega arith) refl 0x0000ffff0000ffff r0 r1 r2 fits_16 s2
        (held_stage 32 1 (omega arith) (omega arith) refl 0x00000000ffffffff r0 r0 r1 fits-32 s1 none_yet)))))

-- ---- the rows between the two steps of a stage
rows_of : (ℕ → ℕ) → ℕ → ℕ → List ℕ
rows_of f zero k = []
rows_of f (suc n) k = f k ∷ rows_of f n (suc k)

rows_at : (f : ℕ → ℕ) (n k i : ℕ) → i < n → get_or (rows_of f n k) i 0 ≡ f (k + i)
unfolding rows_of
rows_at f zero k i h = absurd (omega arith)
rows_at f (suc n) k zero h = ap f (sym (add-zero k))
rows_at f (suc n) k (suc i) h = rows_at f n (suc k) i (le_of_suc-le-suc h) ∙ ap f (suc-add-suc k i)
  where
    suc-add-suc : (k i : ℕ) → suc k + i ≡ k + suc i
    suc-add-suc k i = omega arith

module _ (s mask t next : ℕ) (before after : List ℕ) (so : Staged s mask t next 16 before after) where
  abbrev low_at : ℕ → ℕ
  low_at i = low_row s mask (get_or before i 0) (get_or before (i + 32) 0)

  abbrev high_at : ℕ → ℕ
  high_at i = high_row s mask (get_or before i 0) (get_or before (i + 32) 0)

  abbrev at : ℕ → ℕ
  at k = cond (eqb (k % 2) 0) (low_at (k / 2)) (high_at (k / 2))

  pub between : List ℕ
  between = rows_of at 64 0

  at-even : (k i : ℕ) → k < 64 → k ≡ 2 * i → get_or between k 0 ≡ low_at i
  unfolding between
  at-even k i h e =
      let even : eqb (k % 2) 0 ≡ true = eq-eqb (k % 2) 0 (omega arith) in
      let half : k / 2 ≡ i = omega arith in
      rows_at at 64 0 k h ∙ ap at (zero-add k) ∙ ap (λ (b : Bool). cond b (low_at (k / 2)) (high_at (k / 2))) even ∙ ap low_at half

  at-odd : (k i : ℕ) → k < 64 → k ≡ 2 * i + 1 → get_or between k 0 ≡ high_at i
  unfolding between
  at-odd k i h e =
      let odd : eqb (k % 2) 0 ≡ false = ne_eqb (k % 2) 0 (omega arith) in
      let half : k / 2 ≡ i = omega arith in
      rows_at at 64 0 k h ∙ ap at (zero-add k) ∙ ap (λ (b : Bool). cond b (low_at (k / 2)) (high_at (k / 2))) odd ∙ ap high_at half

  pub first_step : Step s mask before between
  first_step = record { low = λ i h. at-even (2 * i) i (omega arith) refl; high = λ i h. at-odd (2 * i + 1) i (omega arith) refl }

  -- rows of the second step, by whether it is a row of the low or of the high ones
  module _ (pick : ℕ → ℕ → ℕ → ℕ → ℕ) (to : ℕ) where
    second-of : ((i : ℕ) → i < 16 → get_or after (4 * i + to) 0 ≡ pick t next (low_at i) (low_row s mask (get_or before (i + 16) 0) (get_or before (i + 48) 0)))
        → ((i : ℕ) → i < 16 → get_or after (4 * i + 2 + to) 0 ≡ pick t next (high_at i) (high_row s mask (get_or before (i + 16) 0) (get_or before (i + 48) 0)))
        → (k : ℕ) → k < 32 → get_or after (2 * k + to) 0 ≡ pick t next (get_or between k 0) (get_or between (k + 32) 0)
    second-of evens odds k h = by (eqb (k % 2) 0) refl
      where
        i : ℕ
        i = k / 2

        far : (i : ℕ) → i + 48 ≡ i + 16 + 32
        far i = omega arith

        by : (b : Bool) → eqb (k % 2) 0 ≡ b → get_or after (2 * k + to) 0 ≡ pick t next (get_or between k 0) (get_or between (k + 32) 0)
        by true e =
            let even = eqb-true (k % 2) 0 e in
            let is : 2 * k + to ≡ 4 * (k / 2) + to = omega arith in
            ap (λ (x : ℕ). get_or after x 0) is ∙ evens (k / 2) (omega arith)
            ∙ ap₂ (pick t next) (sym (at-even k (k / 2) (omega arith) (omega arith)))
            (ap (λ (x : ℕ). low_row s mask (get_or before (k / 2 + 16) 0) (get_or before x 0)) (far (k / 2))
            ∙ sym (at-even (k + 32) (k / 2 + 16) (omega arith) (omega arith)))
        by false e =
            let odd : k % 2 ≡ 1 = omega (arith, eqb-false (k % 2) 0 e) in
            let is : 2 * k + to ≡ 4 * (k / 2) + 2 + to = omega arith in
            ap (λ (x : ℕ). get_or after x 0) is ∙ odds (k / 2) (omega arith)
            ∙ ap₂ (pick t next) (sym (at-odd k (k / 2) (omega arith) (omega arith)))
            (ap (λ (x : ℕ). high_row s mask (get_or before (k / 2 + 16) 0) (get_or before x 0)) (far (k / 2))
            ∙ sym (at-odd (k + 32) (k / 2 + 16) (omega arith) (omega arith)))

  pub second-step : Step t next between after
  second-step =
      record {
        low =
            λ k h. ap (λ (x : ℕ). get_or after x 0) (sym (add-zero (2 * k)))
            ∙ second-of low_row 0 (λ i l. ap (λ (x : ℕ). get_or after x 0) (add-zero (4 * i)) ∙ so.first i l)
            (λ i l. ap (λ (x : ℕ). get_or after x 0) (add-zero (4 * i + 2)) ∙ so.third i l) k h;
        high = second-of high_row 1 so.second (λ i l. ap (λ (x : ℕ). get_or after x 0) (two-one i) ∙ so.fourth i l);
      }
    where
      two-one : (i : ℕ) → 4 * i + 2 + 1 ≡ 4 * i + 3
      two-one i = omega arith

pub three-stages : (r0 r1 r2 r3 : List ℕ) → Staged 32 0x00000000ffffffff 16 0x0000ffff0000ffff 16 r0 r1
    → Staged 8 0x00ff00ff00ff00ff 4 0x0f0f0f0f0f0f0f0f 16 r1 r2 → Staged 2 0x3333333333333333 1 0x5555555555555555 16 r2 r3
    → (i j : ℕ) → i < 64 → j < 64 → has (get_or r3 i 0) j ≡ has (get_or r0 j 0) i
three-stages r0 r1 r2 r3 a b c =
    six-stages r0 (between 32 0x00000000ffffffff 16 0x0000ffff0000ffff r0 r1 a) r1 (between 8 0x00ff00ff00ff00ff 4 0x0f0f0f0f0f0f0f0f r1 r2 b) r2
    (between 2 0x3333333333333333 1 0x5555555555555555 r2 r3 c) r3
    (first_step 32 0x00000000ffffffff 16 0x0000ffff0000ffff r0 r1 a) (second-step 32 0x00000000ffffffff 16 0x0000ffff0000ffff r0 r1 a)
    (first_step 8 0x00ff00ff00ff00ff 4 0x0f0f0f0f0f0f0f0f r1 r2 b) (second-step 8 0x00ff00ff00ff00ff 4 0x0f0f0f0f0f0f0f0f r1 r2 b)
    (first_step 2 0x3333333333333333 1 0x5555555555555555 r2 r3 c) (second-step 2 0x3333333333333333 1 0x5555555555555555 r2 r3 c)
