-- The two sums without a remainder at each byte: the first is the sum of the bytes, the second counts each byte as often as
-- sums are taken from it on. One remainder at the end gives the same. Assumes nothing.
use Rattle.std.proofs.Common.{◌≡◌, ℕ, zero, suc, ◌+◌, ◌-◌, ◌*◌, ◌%◌, ◌<◌, ◌≤◌, List, [], ◌∷◌, ◌++◌, length, take, sym, refl, ap, ◌∙◌, add-zero, add_assoc, add-mul, mul-zero, zero-add, zero-mul, mul-suc, mul-add, arith, length-append, take-suc}
use native.Mathlib.Nat.{mod-add-mod, add-mod}
use Rattle.fields.specs.Bytes.{byte_at}
use Rattle.blocks.specs.Blocks.{sum_a, sum_b}
use Rattle.blocks.specs.Columns.{sum}
use Rattle.blocks.proofs.Cells.{sum_same, sum_both}

-- the sum of the bytes
pub total : List ℕ → ℕ
total [] = 0
total (x ∷ xs) = x + total xs

-- each byte as often as it and those after it are
pub weighted : List ℕ → ℕ
weighted [] = 0
weighted (x ∷ xs) = x * suc (length xs) + weighted xs

sum_a-total : (a : ℕ) (s : List ℕ) → sum_a (a % 255) s ≡ (a + total s) % 255
unfolding sum_a total
sum_a-total a [] = rw add-zero
sum_a-total a (x ∷ xs) = rw mod-add-mod (sum_a-total (a + x) xs ∙ rw add_assoc)

sum_b-weighted : (a b : ℕ) (s : List ℕ) → sum_b (a % 255) (b % 255) s ≡ (b + (a * length s + weighted s)) % 255
unfolding sum_b weighted
sum_b-weighted a b [] = rw (mul-zero, add-zero)
sum_b-weighted a b (x ∷ xs) =
    rw (mod-add-mod a 255 x, ← add-mod b (a + x) 255) (sum_b-weighted (a + x) (b + (a + x)) xs ∙ ap (λ (n : ℕ). n % 255) regroup)
  where
    regroup : b + (a + x) + ((a + x) * length xs + weighted xs) ≡ b + (a * suc (length xs) + (x * suc (length xs) + weighted xs))
    regroup = rw (add-mul a x (length xs), mul-suc a (length xs), mul-suc x (length xs)) (omega arith)

total-append : (s t : List ℕ) → total (s ++ t) ≡ total s + total t
unfolding total
total-append [] t = sym (zero-add (total t))
total-append (x ∷ xs) t = rw (total-append xs t) (sym (add_assoc x (total xs) (total t)))

weighted-append : (s t : List ℕ) → weighted (s ++ t) ≡ weighted s + (total s * length t + weighted t)
unfolding weighted total
weighted-append [] t = omega (arith, zero-mul (length t))
weighted-append (x ∷ xs) t =
    rw (weighted-append xs t, length-append xs t)
    (omega
    (arith, mul-suc x (length xs + length t), mul-suc x (length xs), mul-add x (length xs) (length t), add-mul x (total xs) (length t)))

-- ---- of the first n bytes of a list, by their places
module _ (s : List ℕ) where
  total-taken : (n : ℕ) → n ≤ length s → total (take n s) ≡ sum (byte_at s) n
  unfolding total sum
  total-taken zero h = refl
  total-taken (suc n) h =
      let k = total-taken n (omega arith) in
      ap total (take-suc s n 0 (omega arith)) ∙ total-append (take n s) (byte_at s n ∷ []) ∙ omega arith

  weighted-taken : (n : ℕ) → n ≤ length s → weighted (take n s) ≡ sum (λ (i : ℕ). byte_at s i * (n - i)) n
  unfolding total weighted sum
  weighted-taken zero h = refl
  weighted-taken (suc n) h =
      let k = weighted-taken n (omega arith) in
      let t = total-taken n (omega arith) in
      let last : suc n - n ≡ 1 = omega arith in
      let e = ap (λ (m : ℕ). byte_at s n * m) last in
      let more = sum_same (λ (i : ℕ). byte_at s i * (suc n - i)) (λ (i : ℕ). byte_at s i * (n - i) + byte_at s i) n once_more ∙ sum_both _ (byte_at s) n in
      ap weighted (take-suc s n 0 (omega arith)) ∙ weighted-append (take n s) (byte_at s n ∷ []) ∙ omega arith
    where
      once_more : (i : ℕ) → i < n → byte_at s i * (suc n - i) ≡ byte_at s i * (n - i) + byte_at s i
      once_more i h =
          let e : suc n - i ≡ n - i + 1 = omega arith in
          ap (λ (m : ℕ). byte_at s i * m) e ∙ mul-add (byte_at s i) (n - i) 1 ∙ ap (λ (m : ℕ). byte_at s i * (n - i) + m) (omega arith)

-- the two sums of the first n bytes: each byte once, and byte i counted n - i times
pub sums-are : (s : List ℕ) (n : ℕ) → n ≤ length s
    → (sum_a 0 (take n s) ≡ sum (byte_at s) n % 255) × (sum_b 0 0 (take n s) ≡ sum (λ (i : ℕ). byte_at s i * (n - i)) n % 255)
sums-are s n h = (
  sum_a-total 0 (take n s) ∙ ap (λ (k : ℕ). k % 255) (zero-add (total (take n s)) ∙ total-taken s n h),
  sum_b-weighted 0 0 (take n s)
      ∙ ap (λ (k : ℕ). k % 255) (omega (arith, zero-mul (length (take n s))) ∙ weighted-taken s n h),
)
