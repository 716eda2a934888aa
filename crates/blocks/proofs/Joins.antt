-- The sums over the columns of both halves of a block are its two sums. Assumes nothing.
use Rattle.std.proofs.Common.{◌≡◌, ℕ, zero, suc, ◌+◌, ◌-◌, ◌*◌, ◌/◌, ◌%◌, ◌<◌, ◌≤◌, List, length, take, drop, sym, refl, ap, ◌∙◌, ap₂, mul_assoc, mul_comm, mul-zero, mul-add, arith, get_or-drop, get_or-take}
use native.Mathlib.Nat.{add-mul-mod_self_left}
use Rattle.fields.specs.Bytes.{byte_at}
use Rattle.blocks.specs.declared.columns.Columns.{Columns}
use Rattle.blocks.specs.Blocks.{sum_a, sum_b}
use Rattle.blocks.specs.Columns.{sum, cell, Column, once_at, often_at, Columned, Small, fold_of, term_of, column_once, column_term, JoinedOf}
use Rattle.blocks.proofs.Cells.{sum-next, sum_same, sum_both, sum-times, sum-join, column-small}
use Rattle.blocks.proofs.Sums.{sums-are}

-- ---- all columns together are all bytes
-- the bytes of m rows, column by column
by-columns : (f : ℕ → ℕ) (m : ℕ) → sum (λ (j : ℕ). sum (λ (q : ℕ). f (16 * q + j)) m) 16 ≡ sum f (16 * m)
unfolding sum
by-columns f zero = refl
by-columns f (suc m) =
    let rows : 16 * suc m ≡ 16 * m + 16 = omega arith in
    sum_both (λ (j : ℕ). sum (λ (q : ℕ). f (16 * q + j)) m) (λ (j : ℕ). f (16 * m + j)) 16
    ∙ ap (λ (n : ℕ). n + sum (λ (j : ℕ). f (16 * m + j)) 16) (by-columns f m)
    ∙ sym (ap (sum f) rows ∙ sum-join f (16 * m) 16)

-- a byte of half a block counts as often as bytes follow it in that half
abbrev follows : List ℕ → ℕ → ℕ
follows half i = byte_at half i * (255 - i)

-- a column's bytes by rows, 16 times, and by the column
column-follows : (half : List ℕ) (j once often : ℕ) → j < 16 → Column half 16 j once often
    → 16 * often + (15 - j) * once ≡ sum (λ (q : ℕ). follows half (16 * q + j)) 16
column-follows half j once often h k =
    ap₂ (λ (x y : ℕ). 16 * x + (15 - j) * y) k.counted k.all
    ∙ ap₂ ◌+◌ (sym (sum-times (λ (q : ℕ). cell half j q * (16 - 1 - q)) 16 16)) (sym (sum-times (cell half j) (15 - j) 16))
    ∙ sym (sum_both _ _ 16) ∙ sum_same _ _ 16 at
  where
    at : (q : ℕ) → q < 16 → 16 * (cell half j q * (16 - 1 - q)) + (15 - j) * cell half j q ≡ follows half (16 * q + j)
    at q r =
        let x = cell half j q in
        let w : 255 - (16 * q + j) ≡ 16 * (16 - 1 - q) + (15 - j) = omega arith in
        let e : x * (255 - (16 * q + j)) ≡ x * (16 * (16 - 1 - q)) + x * (15 - j) =
        ap (λ (n : ℕ). x * n) w ∙ mul-add x (16 * (16 - 1 - q)) (15 - j) in
        let f : x * (16 * (16 - 1 - q)) ≡ 16 * (x * (16 - 1 - q)) =
        sym (mul_assoc x 16 (16 - 1 - q)) ∙ ap (λ (n : ℕ). n * (16 - 1 - q)) (mul_comm x 16) ∙ mul_assoc 16 x (16 - 1 - q) in
        omega (arith, mul_comm x (15 - j))

sixteen : sum (λ (j : ℕ). 4080) 16 ≡ 65280
unfolding sum
sixteen = refl

-- ---- a column's term, and what the folds leave out
fold-back : (x : ℕ) → fold_of x + 255 * (x / 256) ≡ x
fold-back x = omega arith

-- how often 255 is left out
abbrev rest : ℕ → ℕ → ℕ → ℕ
rest once often w = 16 * (often / 256) + w * (once / 256)

term-back : (once often w second : ℕ) → term_of once often w second + 255 * rest once often w ≡ 16 * often + w * once + (4080 - second)
unfolding term_of
term-back once often w second =
    let a = fold-back often in
    let b : w * fold_of once + 255 * (w * (once / 256)) ≡ w * once =
    ap (λ (n : ℕ). w * fold_of once + n) (sym (mul_assoc 255 w (once / 256)) ∙ ap (λ (n : ℕ). n * (once / 256)) (mul_comm 255 w) ∙ mul_assoc w 255 (once / 256))
    ∙ sym (mul-add w (fold_of once) (255 * (once / 256))) ∙ ap (λ (n : ℕ). w * n) (fold-back once) in
    omega (arith, mul-add 255 (16 * (often / 256)) (w * (once / 256)))

columned-small : {half : List ℕ} {s : Columns} → Columned half 16 s → Small s
columned-small {half} {s} k = record { low = λ j h. (small j h).0; high = λ j h. (small j h).1 }
  where
    small : (j : ℕ) → j < 16 → (once_at s j ≤ 4080) × (often_at s j ≤ 30600)
    small j h = column-small half 16 j _ _ (omega arith) (k.column j h)

module _ (block : List ℕ) (one two : Columns) (long : length block ≡ 512)
    (first : Columned (take 256 block) 16 one) (second : Columned (take 256 (drop 256 block)) 16 two) where
  abbrev h1 : List ℕ
  h1 = take 256 block

  abbrev h2 : List ℕ
  h2 = take 256 (drop 256 block)

  pub columns-small : Small one × Small two
  columns-small = (columned-small first, columned-small second)

  -- the sums of the columns are those of the bytes
  all_first : sum (λ (j : ℕ). once_at one j) 16 ≡ sum (byte_at h1) 256
  all_first = sum_same _ _ 16 (λ j h. (first.column j h).all) ∙ by-columns (byte_at h1) 16

  all-second : sum (λ (j : ℕ). once_at two j) 16 ≡ sum (byte_at h2) 256
  all-second = sum_same _ _ 16 (λ j h. (second.column j h).all) ∙ by-columns (byte_at h2) 16

  often-first : sum (λ (j : ℕ). 16 * often_at one j + (15 - j) * once_at one j) 16 ≡ sum (follows h1) 256
  often-first = sum_same _ _ 16 (λ j h. column-follows h1 j _ _ h (first.column j h)) ∙ by-columns (follows h1) 16

  often-second : sum (λ (j : ℕ). 16 * often_at two j + (15 - j) * once_at two j) 16 ≡ sum (follows h2) 256
  often-second = sum_same _ _ 16 (λ j h. column-follows h2 j _ _ h (second.column j h)) ∙ by-columns (follows h2) 16

  -- 16 times 4,080
  less-second : sum (λ (j : ℕ). 4080 - once_at two j) 16 + sum (byte_at h2) 256 ≡ 65280
  less-second =
      ap (λ (n : ℕ). sum (λ (j : ℕ). 4080 - once_at two j) 16 + n) (sym all-second) ∙ sym (sum_both _ _ 16)
      ∙ sum_same _ (λ (j : ℕ). 4080) 16 whole ∙ sixteen
    where
      whole : (j : ℕ) → j < 16 → 4080 - once_at two j + once_at two j ≡ 4080
      whole j h = omega (arith, columns-small.1.low j h)

  -- what the folds leave out of all columns
  left_out : ℕ
  left_out = sum (λ (j : ℕ). rest (column_once one two j) (often_at one j + often_at two j) (15 - j)) 16

  terms-back : sum (column_term one two) 16 + 255 * left_out + sum (byte_at h2) 256 ≡ sum (follows h1) 256 + sum (follows h2) 256 + 65280
  unfolding left_out
  terms-back =
      let backs =
      ap (λ (n : ℕ). sum (column_term one two) 16 + n) (sym (sum-times _ 255 16)) ∙ sym (sum_both (column_term one two) _ 16)
      ∙ sum_same _ (λ (j : ℕ). halves j + (4080 - once_at two j)) 16 (λ j h. term-back _ _ (15 - j) _ ∙ ap (λ (n : ℕ). n + (4080 - once_at two j)) (apart j))
      ∙ sum_both halves (λ (j : ℕ). 4080 - once_at two j) 16
      ∙ ap (λ (n : ℕ). n + sum (λ (j : ℕ). 4080 - once_at two j) 16) (sum_both by_one by_two 16 ∙ ap₂ ◌+◌ often-first often-second) in
      omega (arith, less-second)
    where
      by_one : ℕ → ℕ
      by_one j = 16 * often_at one j + (15 - j) * once_at one j

      by_two : ℕ → ℕ
      by_two j = 16 * often_at two j + (15 - j) * once_at two j

      halves : ℕ → ℕ
      halves j = by_one j + by_two j

      apart : (j : ℕ) → 16 * (often_at one j + often_at two j) + (15 - j) * (column_once one two j) ≡ halves j
      apart j = omega (arith, mul-add (15 - j) (once_at one j) (once_at two j))

  -- ---- the bytes of the block by the halves
  in-first : (i : ℕ) → i < 256 → byte_at block i ≡ byte_at h1 i
  in-first i h = sym (get_or-take 256 block i 0 h)

  in-second : (i : ℕ) → i < 256 → byte_at block (256 + i) ≡ byte_at h2 i
  in-second i h = sym (get_or-take 256 (drop 256 block) i 0 h ∙ get_or-drop 256 block i 0)

  -- byte i of the first half counts 510 - i times: as often as bytes follow it there, and 255 times
  counted-first : sum (λ (i : ℕ). byte_at block i * (510 - i)) 256 ≡ sum (follows h1) 256 + 255 * sum (byte_at h1) 256
  counted-first =
      sum_same _ (λ (i : ℕ). follows h1 i + 255 * byte_at h1 i) 256 at ∙ sum_both _ _ 256
      ∙ ap (λ (n : ℕ). sum (follows h1) 256 + n) (sum-times (byte_at h1) 255 256)
    where
      at : (i : ℕ) → i < 256 → byte_at block i * (510 - i) ≡ follows h1 i + 255 * byte_at h1 i
      at i h =
          let w : 510 - i ≡ 255 - i + 255 = omega arith in
          ap₂ ◌*◌ (in-first i h) w ∙ mul-add (byte_at h1 i) (255 - i) 255 ∙ ap (λ (n : ℕ). follows h1 i + n) (mul_comm (byte_at h1 i) 255)

  -- of the second half once less; its last two bytes are left out
  counted-second : sum (λ (i : ℕ). byte_at block (256 + i) * (510 - (256 + i))) 254 + sum (byte_at h2) 256 ≡ sum (follows h2) 256 + byte_at h2 255
  counted-second =
      let same = sum_same _ (λ (i : ℕ). byte_at h2 i * (254 - i)) 254 at in
      let more = sum_same (follows h2) (λ (i : ℕ). byte_at h2 i * (254 - i) + byte_at h2 i) 254 once_more ∙ sum_both _ (byte_at h2) 254 in
      let last = sum-next (follows h2) 254 in
      let end = sum-next (follows h2) 255 in
      let tail = sum-next (byte_at h2) 254 in
      let stop = sum-next (byte_at h2) 255 in
      omega (arith, mul-zero (byte_at h2 255))
    where
      at : (i : ℕ) → i < 254 → byte_at block (256 + i) * (510 - (256 + i)) ≡ byte_at h2 i * (254 - i)
      at i h =
          let w : 510 - (256 + i) ≡ 254 - i = omega arith in
          ap₂ ◌*◌ (in-second i (omega arith)) w

      once_more : (i : ℕ) → i < 254 → follows h2 i ≡ byte_at h2 i * (254 - i) + byte_at h2 i
      once_more i h =
          let w : 255 - i ≡ 254 - i + 1 = omega arith in
          ap (λ (n : ℕ). byte_at h2 i * n) w ∙ mul-add (byte_at h2 i) (254 - i) 1 ∙ ap (λ (n : ℕ). byte_at h2 i * (254 - i) + n) (omega arith)

  -- ---- the two sums
  module _ (s n : ℕ) (joined : JoinedOf one two s n) where
    all : s ≡ sum (byte_at block) 510 + byte_at block 510 + byte_at block 511
    all =
        let whole = joined.all ∙ sum_both _ _ 16 ∙ ap₂ ◌+◌ all_first all-second in
        let parts = sum-join (byte_at block) 256 256 in
        let front = sum_same (byte_at block) (byte_at h1) 256 in-first in
        let back = sum_same (λ (i : ℕ). byte_at block (256 + i)) (byte_at h2) 256 in-second in
        omega (arith, sum-next (byte_at block) 510, sum-next (byte_at block) 511)

    pub first-sum : (byte_at block 510 + byte_at block 511 ≤ s) × ((s - byte_at block 510 - byte_at block 511) % 255 ≡ sum_a 0 (take 510 block))
    first-sum =
        let e : s - byte_at block 510 - byte_at block 511 ≡ sum (byte_at block) 510 = omega (arith, all) in
        (omega (arith, all), rw e (sym (sums-are block 510 (omega arith)).0))

    counted : n + byte_at block 511 + 255 * (left_out + sum (byte_at h1) 256) ≡ sum (λ (i : ℕ). byte_at block i * (510 - i)) 510 + 255 * 256
    counted =
        let parts = sum-join (λ (i : ℕ). byte_at block i * (510 - i)) 256 254 in
        omega (
          arith,
          joined.counted,
          terms-back,
          counted-first,
          counted-second,
          in-second 255 (omega arith),
          mul-add 255 left_out (sum (byte_at h1) 256),
        )

    pub second-sum : (n + byte_at block 511) % 255 ≡ sum_b 0 0 (take 510 block)
    second-sum =
        sym (add-mul-mod_self_left (n + byte_at block 511) 255 (left_out + sum (byte_at h1) 256))
        ∙ ap (λ (m : ℕ). m % 255) counted ∙ add-mul-mod_self_left _ 255 256 ∙ sym (sums-are block 510 (omega arith)).1
