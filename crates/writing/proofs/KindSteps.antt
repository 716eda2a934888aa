-- Laws of the loop that writes the blocks of a kind, whatever the records are. Assumes nothing.
use Prim.Native.Nat.{ℕ, suc, ◌+◌, ◌-◌, ◌*◌, ◌/◌, ◌≤◌, ◌<◌, min}
use mathlib.Core.Path.{◌≡◌, refl, sym, ap, ap₂, ◌∙◌, subst}
use mathlib.Core.Bool.{Bool, true, false}
use mathlib.Core.List.{List, [], ◌++◌, flatten}
use native.Mathlib.Nat.{sub-zero, mul-one, mul-add-div, div-eq_of_lt}
use native.Mathlib.Numerals.{add-one}
use native.Mathlib.Omega.{arith}
use borrow.Author.Tests.{leb-true, leb-false}
use lib.Dec.{leb}
use lib.ListN.{length, take, drop, length-take, length-drop, drop_of_length-le}
use lib.Seq.{take_all, drop-drop}
use Rattle.buffers.specs.Pasting.{Written}
use Rattle.buffers.proofs.Left.{written-long, written_then}
use Rattle.header.specs.declared.edition.Edition.{Edition}
use Rattle.header.specs.declared.layout.Kind.{Kind}
use Rattle.header.specs.Layout.{kind_byte, record_size, capacity_of, blocks_for}
use Rattle.header.proofs.Editions.{kind-roomy}
use Rattle.writing.specs.Laid.{head_of, block_of, Sized, kind_blocks}
use Rattle.writing.proofs.Packed.{sized-take, sized-drop, used-fits, block-length, kind-length}
use Rattle.writing.proofs.Placed.{room-for-records}

-- ---- a piece written after n bytes, where k more have room
module _ {b : List ℕ} {e : ℕ} {x mid : List ℕ} {r : ℕ} (n k : ℕ) (long : length x ≡ n) (room : e + (n + k) ≤ length b) (v : Written b e x mid r) where
  fits : e + length x ≤ length b
  fits = omega arith

  pub room_after : (m : ℕ) → m ≤ k → r + m ≤ length mid
  room_after m h = omega (arith, v.stop, written-long fits v)

  pub then-written : {y after : List ℕ} {q : ℕ} → Written mid r y after q → Written b e (x ++ y) after q
  then-written w = written_then fits v w

-- ---- how many blocks: one fewer for what is left after a block of c records
one-add : (n : ℕ) → 1 + n ≡ suc n
one-add n = omega arith

blocks_step : (c m : ℕ) → 1 ≤ c → 0 < m → blocks_for c m ≡ suc (blocks_for c (m - c))
unfolding blocks_for
blocks_step c m some h = at (leb c m) refl
  where
    at : (t : Bool) → leb c m ≡ t → (m + (c - 1)) / c ≡ suc ((m - c + (c - 1)) / c)
    at true e =
        let more = leb-true c m e in
        let s : c * 1 + (m - c + (c - 1)) ≡ m + (c - 1) = omega (arith, mul-one c) in
        ap (λ (n : ℕ). n / c) (sym s) ∙ mul-add-div some 1 (m - c + (c - 1)) ∙ one-add ((m - c + (c - 1)) / c)
    at false e =
        let fewer = leb-false c m e in
        let s : c * 1 + (m - 1) ≡ m + (c - 1) = omega (arith, mul-one c) in
        let first : m - 1 < c = omega arith in
        let last : m - c + (c - 1) < c = omega arith in
        ap (λ (n : ℕ). n / c) (sym s) ∙ mul-add-div some 1 (m - 1) ∙ ap (λ (n : ℕ). 1 + n) (div-eq_of_lt first ∙ sym (div-eq_of_lt last))
        ∙ one-add ((m - c + (c - 1)) / c)

pub no_blocks : (c : ℕ) → 1 ≤ c → blocks_for c 0 ≡ 0
unfolding blocks_for
no_blocks c some = let few : 0 + (c - 1) < c = omega arith in div-eq_of_lt few

-- where a block's records end, by the numbers that code has
pub last-place : (from : ℕ) {to count held n c : ℕ} → to ≡ min count (from + held) → count ≡ n → held ≡ c → to ≡ min n (from + c)
last-place from e d h = e ∙ ap₂ (λ (n c : ℕ). min n (from + c)) d h

-- ---- up to c records from `from` on, where the last of them stands before `to`
module _ (rs : List (List ℕ)) (c from to : ℕ) (e : to ≡ min (length rs) (from + c)) where
  take-upto : take c (drop from rs) ≡ take (to - from) (drop from rs)
  take-upto = at (leb (from + c) (length rs)) refl
    where
      at : (t : Bool) → leb (from + c) (length rs) ≡ t → take c (drop from rs) ≡ take (to - from) (drop from rs)
      at true d =
          let more = leb-true (from + c) (length rs) d in
          let same : c ≡ to - from = omega arith in
          ap (λ (n : ℕ). take n (drop from rs)) same
      at false d =
          let fewer = leb-false (from + c) (length rs) d in
          let l = length-drop from rs in
          take_all c (drop from rs) (omega arith) ∙ sym (take_all (to - from) (drop from rs) (omega arith))

  drop-upto : drop c (drop from rs) ≡ drop to rs
  drop-upto = drop-drop c from rs ∙ at (leb (from + c) (length rs)) refl
    where
      at : (t : Bool) → leb (from + c) (length rs) ≡ t → drop (from + c) rs ≡ drop to rs
      at true d =
          let more = leb-true (from + c) (length rs) d in
          let same : from + c ≡ to = omega arith in
          ap (λ (n : ℕ). drop n rs) same
      at false d =
          let fewer = leb-false (from + c) (length rs) d in
          let past : length rs ≤ from + c = omega arith in
          let last : length rs ≤ to = omega arith in
          drop_of_length-le rs past ∙ sym (drop_of_length-le rs last)

pub written_same : {b : List ℕ} {e : ℕ} {x y mid : List ℕ} {r : ℕ} → x ≡ y → Written b e x mid r → Written b e y mid r
written_same {b} {e} {x} {y} {mid} {r} d w = subst (λ (t : List ℕ). Written b e t mid r) d w

-- ---- the records of a kind
module _ (edition : Edition) (kind : Kind) (rs : List (List ℕ)) where
  -- ---- those from `from` up to `to`
  abbrev pub run_of : ℕ → ℕ → List (List ℕ)
  run_of from to = take (to - from) (drop from rs)

  pub run-count : (from to : ℕ) → from ≤ to → to ≤ length rs → length (run_of from to) ≡ to - from
  run-count from to low high = simp (length-take, length-drop) (omega arith)

  -- ---- the blocks from place b on, with the records from `from` on
  abbrev pub blocks_left : ℕ → ℕ → List ℕ
  blocks_left from b =
      kind_blocks (kind_byte kind) (capacity_of edition kind) (blocks_for (capacity_of edition kind) (length rs - from)) b (drop from rs)

  abbrev pub all_blocks : ℕ → List ℕ
  all_blocks place = kind_blocks (kind_byte kind) (capacity_of edition kind) (blocks_for (capacity_of edition kind) (length rs)) place rs

  pub kind-start : (place : ℕ) → blocks_left 0 place ≡ all_blocks place
  kind-start place = rw sub-zero

  pub kind-step : (from b to : ℕ) → from < length rs → to ≡ min (length rs) (from + capacity_of edition kind)
      → blocks_left from b ≡ block_of (kind_byte kind) b (run_of from to) ++ blocks_left to (b + 1)
  unfolding kind_blocks
  kind-step from b to h e =
      let c = capacity_of edition kind in
      let some = (kind-roomy edition kind 0 0).some in
      let left : length rs - from - c ≡ length rs - to = omega arith in
      let more : blocks_for c (length rs - from) ≡ suc (blocks_for c (length rs - to)) =
      blocks_step c (length rs - from) some (omega arith) ∙ ap (λ (n : ℕ). suc (blocks_for c n)) left in
      rw (more, take-upto rs c from to e, drop-upto rs c from to e, add-one)

  pub kind-end : (from b : ℕ) → length rs ≤ from → blocks_left from b ≡ []
  unfolding kind_blocks
  kind-end from b h =
      let none : length rs - from ≡ 0 = omega arith in
      rw (none, no_blocks (capacity_of edition kind) (kind-roomy edition kind 0 0).some)

  -- ---- lengths
  module _ (sized : Sized (record_size edition kind) rs) where
    abbrev room : 4 + record_size edition kind * capacity_of edition kind ≤ 510
    room = room-for-records edition kind

    pub kind-long : (place : ℕ) → length (all_blocks place) ≡ 512 * blocks_for (capacity_of edition kind) (length rs)
    kind-long place =
        kind-length (kind_byte kind) (record_size edition kind) (capacity_of edition kind) room
        (blocks_for (capacity_of edition kind) (length rs)) place rs sized

    module _ (from to : ℕ) (low : from ≤ to) (high : to ≤ length rs) (few : to ≤ from + capacity_of edition kind) where
      run-sized : Sized (record_size edition kind) (run_of from to)
      run-sized = sized-take (record_size edition kind) (to - from) (drop from rs) (sized-drop (record_size edition kind) from rs sized)

      run-few : length (run_of from to) ≤ capacity_of edition kind
      run-few = omega (arith, run-count from to low high)

      -- a block's used bytes
      pub run-used : (place : ℕ) → length (head_of (kind_byte kind) (length (run_of from to)) place ++ flatten (run_of from to)) ≤ 510
      run-used place = used-fits (kind_byte kind) (record_size edition kind) (capacity_of edition kind) room place (run_of from to) run-sized run-few

      pub run_fits : length (flatten (run_of from to)) ≤ 506
      run_fits = omega (arith, run-used 0)

      pub block-long : (place : ℕ) → length (block_of (kind_byte kind) place (run_of from to)) ≡ 512
      block-long place = block-length (kind_byte kind) (record_size edition kind) (capacity_of edition kind) room place (run_of from to) run-sized run-few

-- ---- a turn of the loop: a block holds the records from `from` up to `to`, and it is the first of those that are left
pub record KindTurn (edition : Edition) (kind : Kind) (rs : List (List ℕ)) (from to b : ℕ) : Type 0 where
  pub low : from ≤ to
  pub here : from < length rs
  pub upto : to ≤ length rs
  pub few : to ≤ from + capacity_of edition kind
  pub long : length (block_of (kind_byte kind) b (run_of edition kind rs from to)) ≡ 512
  pub step : blocks_left edition kind rs from b ≡ block_of (kind_byte kind) b (run_of edition kind rs from to) ++ blocks_left edition kind rs to (b + 1)

-- by the numbers that code has
pub kind-turn : (edition : Edition) (kind : Kind) (rs : List (List ℕ)) (from to b : ℕ) {count held : ℕ} → Sized (record_size edition kind) rs
    → count ≡ length rs → held ≡ capacity_of edition kind → to ≡ min count (from + held) → from < count → KindTurn edition kind rs from to b
kind-turn edition kind rs from to b sized n h e more =
    let last = last-place from e n h in
    let here : from < length rs = omega arith in
    let low : from ≤ to = omega arith in
    let upto : to ≤ length rs = omega arith in
    let few : to ≤ from + capacity_of edition kind = omega arith in
    record {
      low = low;
      here = here;
      upto = upto;
      few = few;
      long = block-long edition kind rs sized from to low upto few b;
      step = kind-step edition kind rs from b to here last;
    }
