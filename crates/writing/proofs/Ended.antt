-- A block written in three steps: its used bytes, zeros up to its end, and over the last two of them the sums. Assumes nothing.
use Prim.Native.Nat.{ℕ, suc, ◌+◌, ◌-◌, ◌≤◌, ◌<◌}
use mathlib.Core.Path.{◌≡◌, refl, sym, ap, ap₂, ◌∙◌, subst}
use mathlib.Core.List.{List, [], ◌∷◌, ◌++◌, append_assoc}
use native.Mathlib.Nat.{add-sub_cancel_left, le_refl}
use native.Mathlib.Omega.{arith}
use lib.ListN.{length, take, drop, set, length-append, replicate-append-replicate}
use lib.Seq.{take_at, take-take, length-take-le, drop-append-le}
use Rattle.fields.specs.Bytes.{part}
use Rattle.fields.proofs.Laws.{drop-take, part_length}
use Rattle.blocks.specs.Blocks.{sum_a, sum_b, sums_of}
use Rattle.blocks.specs.declared.frame.Checksum.{Checksum}
use Rattle.buffers.specs.Pasting.{Written}
use Rattle.buffers.proofs.Left.{Left, byte-alone, left-start, left-turn, left_end, written-long, written-taken, written_then, written_over}
use Rattle.writing.specs.Laid.{zeros, body_of, end_of, sealed}
use Rattle.writing.proofs.Sealed.{zeros-length, sum_a-below, sum_b-below}

-- ---- zeros, one at a time
pub zeros-start : (b₀ : List ℕ) (at n : ℕ) → Left b₀ at (zeros n) b₀ at (zeros (at + n - at))
zeros-start b₀ at n = left-start b₀ at (zeros n) (zeros (at + n - at)) (ap zeros (add-sub_cancel_left at n))

pub zeros-turn : (b₀ : List ℕ) (at n : ℕ) (b : List ℕ) (i : ℕ) → at + n ≤ length b₀ → at ≤ i → i < at + n
    → Left b₀ at (zeros n) b i (zeros (at + n - i))
    → Left b₀ at (zeros n) (set b i 0) (i + 1) (zeros (at + n - (i + 1)))
zeros-turn b₀ at n b i room low high l =
    let one : at + n - i ≡ suc (at + n - (i + 1)) = omega arith in
    let step : zeros (at + n - i) ≡ (0 ∷ []) ++ zeros (at + n - (i + 1)) = ap zeros one in
    let fits : at + length (zeros n) ≤ length b₀ = rw (zeros-length n) room in
    let inside : i < length b = omega (arith, l.long) in
    left-turn b₀ at (zeros n) b i (zeros (at + n - i)) l (0 ∷ []) (zeros (at + n - (i + 1))) step (set b i 0) (i + 1) fits
    (byte-alone b i 0 inside)

pub zeros-end : (b₀ : List ℕ) (at n : ℕ) (b : List ℕ) (i : ℕ) → at + n ≤ i → Left b₀ at (zeros n) b i (zeros (at + n - i))
    → Written b₀ at (zeros n) b i
zeros-end b₀ at n b i high l =
    let none : at + n - i ≡ 0 = omega arith in
    left_end b₀ at (zeros n) b i (zeros (at + n - i)) l (ap zeros none)

-- ---- the part from `at` on of what is written, up to its end
module _ {b : List ℕ} (at : ℕ) {e : ℕ} {x mid : List ℕ} {r : ℕ} (low : at ≤ e) (fits : e + length x ≤ length b) (v : Written b e x mid r) where
  pub written-part : part mid at (r - at) ≡ part b at (e - at) ++ x
  written-part =
      let long : length (take e b) ≡ e = length-take-le e b (omega arith) in
      sym (drop-take at r mid) ∙ ap (drop at) (written-taken fits v) ∙ drop-append-le at (take e b) x (omega arith)
      ∙ ap (λ (t : List ℕ). t ++ x) (drop-take at e b)

-- ---- the sums of a block's first 510 bytes, as code takes the block: both are bytes
pub found-bytes : (found : Checksum) (s : List ℕ) → found ≡ record { a = sum_a 0 s; b = sum_b 0 0 s } → (found.a < 256) × (found.b < 256)
found-bytes found s e =
    let p = sum_a-below 0 s (omega arith) in
    let q = sum_b-below 0 0 s (omega arith) in
    rw e (omega arith, omega arith)

module _ (s : List ℕ) (at : ℕ) (found : Checksum) (e : found ≡ sums_of (take (at + 512 - at) (drop at s))) where
  first-bytes : part (take (at + 512 - at) (drop at s)) 0 510 ≡ part s at 510
  first-bytes = take-take 510 (at + 512 - at) (drop at s) (omega arith)

  found-a : found.a ≡ sum_a 0 (part s at 510)
  found-a = ap (λ (x : Checksum). x.a) e ∙ ap (sum_a 0) first-bytes

  found-b : found.b ≡ sum_b 0 0 (part s at 510)
  found-b = ap (λ (x : Checksum). x.b) e ∙ ap (sum_b 0 0) first-bytes

-- ---- zeros up to the end, and the sums over the last two of them, are a block's end
module _ {b mid : List ℕ} (at n : ℕ) {r : ℕ} (fits : n ≤ 510) (room : at + 512 ≤ length b)
    (v : Written b (at + n) (zeros (512 - n)) mid r) where
  zeros-fit : at + n + length (zeros (512 - n)) ≤ length b
  zeros-fit = rw (zeros-length (512 - n)) (omega arith)

  two-more : zeros (512 - n) ≡ zeros (510 - n) ++ zeros 2
  two-more =
      let more : 510 - n + 2 ≡ 512 - n = omega arith in
      ap zeros (sym more) ∙ sym (replicate-append-replicate (510 - n) 2 0)

  -- room for the sums
  pub sums-room : at + 510 + 2 ≤ length mid
  sums-room = omega (arith, written-long zeros-fit v)

  body-there : part mid at 510 ≡ body_of (part b at n)
  unfolding body_of
  body-there =
      let used : length (part b at n) ≡ n = part_length b at n (omega arith) in
      let upto : r - at ≡ 512 = omega (arith, v.stop, zeros-length (512 - n)) in
      let from : at + n - at ≡ n = omega arith in
      let whole : part mid at 512 ≡ (part b at n ++ zeros (510 - n)) ++ zeros 2 =
      ap (part mid at) (sym upto) ∙ written-part at (omega arith) zeros-fit v
      ∙ ap₂ (λ (i : ℕ) (z : List ℕ). part b at i ++ z) from two-more ∙ sym (append_assoc (part b at n) (zeros (510 - n)) (zeros 2)) in
      let long : length (part b at n ++ zeros (510 - n)) ≡ 510 =
      omega (arith, length-append (part b at n) (zeros (510 - n)), zeros-length (510 - n)) in
      sym (take-take 510 512 (drop at mid) (omega arith)) ∙ ap (take 510) whole
      ∙ take_at (part b at n ++ zeros (510 - n)) (zeros 2) 510 long ∙ ap (λ (j : ℕ). part b at n ++ zeros (510 - j)) (sym used)

  pub end-written : (found : Checksum) → found ≡ sums_of (take (at + 512 - at) (drop at mid)) → {after : List ℕ} {q : ℕ}
      → Written mid (at + 510) (found.a ∷ found.b ∷ []) after q → Written b (at + n) (end_of (part b at n)) after q
  unfolding end_of
  end-written found e {after} {q} w =
      let used : length (part b at n) ≡ n = part_length b at n (omega arith) in
      let there : at + n + length (zeros (510 - n)) ≡ at + 510 = omega (arith, zeros-length (510 - n)) in
      let first : Written b (at + n) (zeros (510 - n) ++ zeros 2) mid r = subst (λ (z : List ℕ). Written b (at + n) z mid r) two-more v in
      let inside : at + n + length (zeros (510 - n) ++ zeros 2) ≤ length b =
      subst (λ (z : List ℕ). at + n + length z ≤ length b) two-more zeros-fit in
      let sums : Written mid (at + n + length (zeros (510 - n))) (found.a ∷ found.b ∷ []) after q = rw there w in
      rw (used, ← body-there, ← found-a mid at found e, ← found-b mid at found e)
      (written_over (zeros (510 - n)) (zeros 2) inside first refl sums)

-- ---- used bytes and then their end are a block
module _ {b used mid : List ℕ} (at : ℕ) {r : ℕ} (fits : length used ≤ 510) (room : at + 512 ≤ length b) (v : Written b at used mid r) where
  used-there : part mid at (length used) ≡ used
  used-there =
      let upto : r - at ≡ length used = omega (arith, v.stop) in
      let none : at - at ≡ 0 = omega arith in
      ap (part mid at) (sym upto) ∙ written-part at (le_refl at) (omega arith) v ∙ ap (λ (k : ℕ). part b at k ++ used) none

  pub block_written : (n : ℕ) → n ≡ length used → {after : List ℕ} {q : ℕ} → Written mid (at + n) (end_of (part mid at n)) after q
      → Written b at (sealed used) after q
  unfolding sealed
  block_written n e {after} {q} w =
      let there : Written mid (at + length used) (end_of (part mid at (length used))) after q =
      subst (λ (k : ℕ). Written mid (at + k) (end_of (part mid at k)) after q) e w in
      written_then (omega arith) v (rw (used-there, ← v.stop) at there)
