-- Laws of sums over places, and of the columns of half a block. Assumes nothing.
use Rattle.std.proofs.Common.{◌≡◌, ℕ, zero, suc, ◌+◌, ◌-◌, ◌*◌, ◌<◌, ◌≤◌, List, sym, refl, ap, ◌∙◌, subst, ap₂, zero-le, add-zero, mul-zero, mul-add, add-one, arith}
use Rattle.blocks.specs.Columns.{sum, cell, Column}

-- ---- sums over places
pub sum-none : (f : ℕ → ℕ) → sum f 0 ≡ 0
unfolding sum
sum-none f = refl

pub sum-next : (f : ℕ → ℕ) (n : ℕ) → sum f (n + 1) ≡ sum f n + f n
unfolding sum
sum-next f n = rw add-one

pub sum_same : (f g : ℕ → ℕ) (n : ℕ) → ((j : ℕ) → j < n → f j ≡ g j) → sum f n ≡ sum g n
unfolding sum
sum_same f g zero e = refl
sum_same f g (suc n) e = ap₂ ◌+◌ (sum_same f g n (λ j h. e j (omega arith))) (e n (omega arith))

pub sum_both : (f g : ℕ → ℕ) (n : ℕ) → sum (λ (j : ℕ). f j + g j) n ≡ sum f n + sum g n
unfolding sum
sum_both f g zero = refl
sum_both f g (suc n) = let k = sum_both f g n in omega arith

pub sum-times : (f : ℕ → ℕ) (m n : ℕ) → sum (λ (j : ℕ). m * f j) n ≡ m * sum f n
unfolding sum
sum-times f m zero = sym (mul-zero m)
sum-times f m (suc n) = ap (λ (k : ℕ). k + m * f n) (sum-times f m n) ∙ sym (mul-add m (sum f n) (f n))

pub sum-grows : (f : ℕ → ℕ) (m n : ℕ) → m ≤ n → sum f m ≤ sum f n
sum-grows f m n h =
    let e : m + (n - m) ≡ n = omega arith in
    subst (λ (k : ℕ). sum f m ≤ sum f k) e (more (n - m))
  where
    more : (d : ℕ) → sum f m ≤ sum f (m + d)
    more zero = subst (λ (k : ℕ). sum f m ≤ sum f k) (sym (add-zero m)) (omega arith)
    more (suc d) =
        let k = more d in
        let one : m + suc d ≡ m + d + 1 = omega arith in
        let e : sum f (m + suc d) ≡ sum f (m + d) + f (m + d) = ap (sum f) one ∙ sum-next f (m + d) in
        omega arith

pub sum-join : (f : ℕ → ℕ) (m n : ℕ) → sum f (m + n) ≡ sum f m + sum (λ (j : ℕ). f (m + j)) n
unfolding sum
sum-join f m zero = ap (sum f) (add-zero m) ∙ sym (add-zero (sum f m))
sum-join f m (suc n) =
    let k = sum-join f m n in
    let one : m + suc n ≡ m + n + 1 = omega arith in
    let e : sum f (m + suc n) ≡ sum f (m + n) + f (m + n) = ap (sum f) one ∙ sum-next f (m + n) in
    omega arith

-- two at a time
pub sum-pairs : (f : ℕ → ℕ) (n : ℕ) → sum (λ (i : ℕ). f (2 * i) + f (2 * i + 1)) n ≡ sum f (2 * n)
unfolding sum
sum-pairs f zero = refl
sum-pairs f (suc n) =
    let k = sum-pairs f n in
    let two : 2 * suc n ≡ 2 * n + 1 + 1 = omega arith in
    let e : sum f (2 * suc n) ≡ sum f (2 * n + 1) + f (2 * n + 1) = ap (sum f) two ∙ sum-next f (2 * n + 1) in
    omega (arith, sum-next f (2 * n))

-- ---- a column with one row more
-- a byte counts once more with each row that follows
more_rows : (f : ℕ → ℕ) (r : ℕ) → sum (λ (q : ℕ). f q * (r + 1 - 1 - q)) (r + 1) ≡ sum (λ (q : ℕ). f q * (r - 1 - q)) r + sum f r
more_rows f r =
    sum-next (λ (q : ℕ). f q * (r + 1 - 1 - q)) r
    ∙ ap₂ ◌+◌ (sum_same _ _ r once_more ∙ sum_both (λ (q : ℕ). f q * (r - 1 - q)) f r) (ap (λ (k : ℕ). f r * k) none ∙ mul-zero (f r))
    ∙ add-zero _
  where
    none : r + 1 - 1 - r ≡ 0
    none = omega arith

    once_more : (q : ℕ) → q < r → f q * (r + 1 - 1 - q) ≡ f q * (r - 1 - q) + f q
    once_more q h =
        let e : r + 1 - 1 - q ≡ r - 1 - q + 1 = omega arith in
        ap (λ (k : ℕ). f q * k) e ∙ mul-add (f q) (r - 1 - q) 1 ∙ ap (λ (k : ℕ). f q * (r - 1 - q) + k) (omega arith)

pub column-next : (half : List ℕ) (r j once often x : ℕ) → x ≡ cell half j r → x < 256 → Column half r j once often
    → Column half (r + 1) j (once + x) (often + once)
column-next half r j once often x e small k =
    record {
      all = sym (sum-next (cell half j) r ∙ ap₂ ◌+◌ (sym k.all) (sym e));
      counted = ap₂ ◌+◌ k.counted k.all ∙ sym (more_rows (cell half j) r);
      low = omega arith;
      high = omega (arith, sum-next (λ (q : ℕ). 255 * q) r);
    }

pub column-none : (half : List ℕ) (j : ℕ) → Column half 0 j 0 0
unfolding sum
column-none half j = record { all = refl; counted = refl; low = zero-le; high = zero-le }

-- of at most 16 rows they fit 16 bits
sixteen : sum (λ (q : ℕ). 255 * q) 16 ≡ 30600
unfolding sum
sixteen = refl

most-often : (r : ℕ) → r ≤ 16 → sum (λ (q : ℕ). 255 * q) r ≤ 30600
most-often r h = omega (arith, sum-grows (λ (q : ℕ). 255 * q) r 16 h, sixteen)

pub column-small : (half : List ℕ) (r j once often : ℕ) → r ≤ 16 → Column half r j once often → (once ≤ 4080) × (often ≤ 30600)
column-small half r j once often h k = (omega arith, omega (arith, most-often r h))
