-- The loop of a stage, which makes four rows of four. Assumes nothing.
use Prim.Native.Nat.{ℕ, ◌+◌, ◌*◌, ◌<◌}
use mathlib.Core.Path.{◌≡◌, ◌∙◌}
use mathlib.Core.List.{List}
use native.Mathlib.Omega.{arith}
use borrow.Author.Count.{below_more}
use lib.ListN.{length, get_or, set, length-set}
use lib.Seq.{get_or-set_same, get_or-set_other}
use Rattle.sets.specs.Transposed.{low_row, high_row, Staged}

-- the rows that the first step makes of rows i and i + 32, and of rows i + 16 and i + 48
abbrev low_at : (s mask : ℕ) → List ℕ → ℕ → ℕ
low_at s mask before i = low_row s mask (get_or before i 0) (get_or before (i + 32) 0)

abbrev low_at' : (s mask : ℕ) → List ℕ → ℕ → ℕ
low_at' s mask before i = low_row s mask (get_or before (i + 16) 0) (get_or before (i + 48) 0)

abbrev high_at : (s mask : ℕ) → List ℕ → ℕ → ℕ
high_at s mask before i = high_row s mask (get_or before i 0) (get_or before (i + 32) 0)

abbrev high_at' : (s mask : ℕ) → List ℕ → ℕ → ℕ
high_at' s mask before i = high_row s mask (get_or before (i + 16) 0) (get_or before (i + 48) 0)

pub staged-none : (s mask t next : ℕ) (before after : List ℕ) → length after ≡ 64 → Staged s mask t next 0 before after
staged-none s mask t next before after size =
    record {
      size = size;
      first = λ i h. absurd (omega arith);
      second = λ i h. absurd (omega arith);
      third = λ i h. absurd (omega arith);
      fourth = λ i h. absurd (omega arith);
    }

-- four stores, one after the other
module _ (to : List ℕ) (i w0 w1 w2 w3 : ℕ) (h : i < 16) (size : length to ≡ 64) where
  pub one-long : length (set to (4 * i) w0) ≡ 64
  one-long = length-set to (4 * i) w0 ∙ size

  pub two-long : length (set (set to (4 * i) w0) (4 * i + 1) w1) ≡ 64
  two-long = length-set (set to (4 * i) w0) (4 * i + 1) w1 ∙ one-long

  pub three-long : length (set (set (set to (4 * i) w0) (4 * i + 1) w1) (4 * i + 2) w2) ≡ 64
  three-long = length-set (set (set to (4 * i) w0) (4 * i + 1) w1) (4 * i + 2) w2 ∙ two-long

  abbrev one : List ℕ
  one = set to (4 * i) w0

  abbrev two : List ℕ
  two = set (set to (4 * i) w0) (4 * i + 1) w1

  abbrev three : List ℕ
  three = set (set (set to (4 * i) w0) (4 * i + 1) w1) (4 * i + 2) w2

  abbrev four : List ℕ
  four = set (set (set (set to (4 * i) w0) (4 * i + 1) w1) (4 * i + 2) w2) (4 * i + 3) w3

  four-long : length four ≡ 64
  four-long = length-set three (4 * i + 3) w3 ∙ three-long

  put-0 : get_or four (4 * i) 0 ≡ w0
  put-0 =
      get_or-set_other three (4 * i + 3) (4 * i) w3 0 (omega arith) ∙ get_or-set_other two (4 * i + 2) (4 * i) w2 0 (omega arith)
      ∙ get_or-set_other one (4 * i + 1) (4 * i) w1 0 (omega arith) ∙ get_or-set_same to (4 * i) w0 0 (omega (arith, size))

  put_1 : get_or four (4 * i + 1) 0 ≡ w1
  put_1 =
      get_or-set_other three (4 * i + 3) (4 * i + 1) w3 0 (omega arith) ∙ get_or-set_other two (4 * i + 2) (4 * i + 1) w2 0 (omega arith)
      ∙ get_or-set_same one (4 * i + 1) w1 0 (omega (arith, one-long))

  put_2 : get_or four (4 * i + 2) 0 ≡ w2
  put_2 = get_or-set_other three (4 * i + 3) (4 * i + 2) w3 0 (omega arith) ∙ get_or-set_same two (4 * i + 2) w2 0 (omega (arith, two-long))

  put_3 : get_or four (4 * i + 3) 0 ≡ w3
  put_3 = get_or-set_same three (4 * i + 3) w3 0 (omega (arith, three-long))

  -- the rows before stay
  stays : (k : ℕ) → k < 4 * i → get_or four k 0 ≡ get_or to k 0
  stays k l =
      get_or-set_other three (4 * i + 3) k w3 0 (omega arith) ∙ get_or-set_other two (4 * i + 2) k w2 0 (omega arith)
      ∙ get_or-set_other one (4 * i + 1) k w1 0 (omega arith) ∙ get_or-set_other to (4 * i) k w0 0 (omega arith)

  pub staged-next : (s mask t next : ℕ) (before : List ℕ) → Staged s mask t next i before to
      → w0 ≡ low_row t next (low_at s mask before i) (low_at' s mask before i)
      → w1 ≡ high_row t next (low_at s mask before i) (low_at' s mask before i)
      → w2 ≡ low_row t next (high_at s mask before i) (high_at' s mask before i)
      → w3 ≡ high_row t next (high_at s mask before i) (high_at' s mask before i)
      → Staged s mask t next (i + 1) before four
  staged-next s mask t next before so e0 e1 e2 e3 =
      record {
        size = four-long;
        first =
            below_more (λ (k : ℕ). get_or four (4 * k) 0 ≡ low_row t next (low_at s mask before k) (low_at' s mask before k)) i
            (λ k l. stays (4 * k) (omega arith) ∙ so.first k l) (put-0 ∙ e0);
        second =
            below_more (λ (k : ℕ). get_or four (4 * k + 1) 0 ≡ high_row t next (low_at s mask before k) (low_at' s mask before k)) i
            (λ k l. stays (4 * k + 1) (omega arith) ∙ so.second k l) (put_1 ∙ e1);
        third =
            below_more (λ (k : ℕ). get_or four (4 * k + 2) 0 ≡ low_row t next (high_at s mask before k) (high_at' s mask before k)) i
            (λ k l. stays (4 * k + 2) (omega arith) ∙ so.third k l) (put_2 ∙ e2);
        fourth =
            below_more (λ (k : ℕ). get_or four (4 * k + 3) 0 ≡ high_row t next (high_at s mask before k) (high_at' s mask before k)) i
            (λ k l. stays (4 * k + 3) (omega arith) ∙ so.fourth k l) (put_3 ∙ e3);
      }
