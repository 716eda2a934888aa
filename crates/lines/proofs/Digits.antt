-- A number in decimal: what the kit's `io::decimal` ensures tells the digits, and a small number has few. Assumes nothing.
use Prim.Native.Nat.{ℕ, zero, suc, ◌+◌, ◌-◌, ◌/◌, ◌^◌, ◌≤◌, ◌<◌}
use mathlib.Core.Path.{◌≡◌, refl, sym, ap, ◌∙◌}
use mathlib.Core.Bool.{Bool, true, false, not}
use mathlib.Core.List.{List}
use native.Mathlib.Omega.{arith}
use native.Mathlib.Nat.{le_antisymm, pow-le-pow_right}
use native.Mathlib.Numerals.{add-one}
use borrow.Author.Tests.{lt-ltb, ltb-true, ltb-false}
use lib.Dec.{ltb, lit<}
use lib.ListN.{length, take, length-append}
use Rattle.io.specs.Digits.{last_digits, IsDigitCount}
use Rattle.fields.specs.Scan.{first_where}
use Rattle.fields.proofs.Scan.{bad-from}
use Rattle.fields.proofs.Meaning.{found_at, found-least}
use Rattle.lines.specs.Lines.{digit_count, decimal}

-- more digits hold more
more-digits : (i j n : ℕ) → i ≤ j → 10 ^ j ≤ n → n < 10 ^ i → ⊥
more-digits i j n h low high =
    let p : 10 ^ i ≤ 10 ^ j = pow-le-pow_right (lit< tt) h in
    omega arith

abbrev holds : ℕ → ℕ → Bool
holds n k = ltb n (10 ^ k)

-- k digits are enough
pub count-short : (n k : ℕ) → 1 ≤ k → n < 10 ^ k → digit_count n ≤ k
unfolding digit_count
count-short n k h l = found-least (holds n) 20 1 k h (lt-ltb n (10 ^ k) l)

-- the fewest digits are that many, where there are 20 at most
pub count-is : (n r : ℕ) → IsDigitCount 10 1 n r → r ≤ 20 → digit_count n ≡ r
unfolding digit_count
count-is n r (some, fits, fewest) few =
    let d = first_where (holds n) 20 1 in
    let least : d ≤ r = found-least (holds n) 20 1 r some (lt-ltb n (10 ^ r) fits) in
    let low : 1 ≤ d = bad-from (λ k. not (holds n k)) 20 1 in
    let inside : d < 1 + 20 = omega arith in
    at (ltb d r) refl least (ltb-true n (10 ^ d) (found_at (holds n) 20 1 inside)) low
  where
    at : {d : ℕ} (t : Bool) → ltb d r ≡ t → d ≤ r → n < 10 ^ d → 1 ≤ d → d ≡ r
    at {d} true e least held low =
        let l : d < r = ltb-true d r e in
        absurd (more-digits d (r - 1) n (omega arith) (fewest (omega arith)) held)
    at {d} false e least held low = le_antisymm least (ltb-false d r e)

-- a number below 2 ^ 64 has 20 at most
fewest-short : (n r : ℕ) → n < 2 ^ 64 → IsDigitCount 10 1 n r → r ≤ 20
fewest-short n r small (some, fits, fewest) = at (ltb 20 r) refl
  where
    at : (t : Bool) → ltb 20 r ≡ t → r ≤ 20
    at true e =
        let l : 20 < r = ltb-true 20 r e in
        absurd (more-digits 20 (r - 1) n (omega arith) (fewest (omega arith)) (omega arith))
    at false e = ltb-false 20 r e

-- so what the kit's function leaves at the front of its buffer is the number in decimal
pub decimal-is : (n r : ℕ) (s : List ℕ) → n < 2 ^ 64 → IsDigitCount 10 1 n r → take r s ≡ last_digits 10 r n → take r s ≡ decimal n
unfolding decimal
decimal-is n r s small f e = e ∙ ap (λ (k : ℕ). last_digits 10 k n) (sym (count-is n r f (fewest-short n r small f)))

-- ---- how long a number's text is
pub digits-length : (k n : ℕ) → length (last_digits 10 k n) ≡ k
digits-length zero n = refl
digits-length (suc k) n =
    length-append (last_digits 10 k (n / 10)) _ ∙ ap (λ (x : ℕ). x + 1) (digits-length k (n / 10)) ∙ add-one k

pub decimal-length : (n : ℕ) → length (decimal n) ≡ digit_count n
unfolding decimal
decimal-length n = digits-length (digit_count n) n
