-- A block by itself, from its used bytes: its length, its sums, its used and its unused bytes. Assumes nothing.
use Prim.Native.Nat.{ℕ, zero, suc, ◌+◌, ◌-◌, ◌%◌, ◌≤◌, ◌<◌}
use mathlib.Core.Path.{◌≡◌, refl, sym, ap, ap₂, ◌∙◌}
use mathlib.Core.List.{List, [], ◌∷◌, ◌++◌, append_assoc}
use native.Mathlib.Nat.{mod-lt}
use native.Mathlib.Omega.{arith}
use lib.ListN.{length, take, drop, length-append, length-drop, length-replicate, get_or-append, replicate-append-replicate}
use lib.Seq.{take_at, get_or_at, get_or-append-add, take-append-le, drop-append-le, drop-append-add}
use Rattle.fields.specs.Bytes.{byte_at, part}
use Rattle.blocks.specs.Blocks.{sum_a, sum_b}
use Rattle.writing.specs.Laid.{zeros, body_of, end_of, sealed}

pub zeros-length : (n : ℕ) → length (zeros n) ≡ n
zeros-length n = length-replicate n _

-- past the end of a list zeros are read anyway
pub padded-byte : (s : List ℕ) (n i : ℕ) → byte_at (s ++ zeros n) i ≡ byte_at s i
padded-byte [] zero i = refl
padded-byte [] (suc n) zero = refl
padded-byte [] (suc n) (suc i) = padded-byte [] n i
padded-byte (x ∷ xs) n zero = refl
padded-byte (x ∷ xs) n (suc i) = padded-byte xs n i

-- ---- the sums are bytes
pub sum_a-below : (a : ℕ) (s : List ℕ) → a < 255 → sum_a a s < 255
unfolding sum_a
sum_a-below a [] h = h
sum_a-below a (x ∷ xs) h = sum_a-below ((a + x) % 255) xs (mod-lt (a + x) (omega arith))

pub sum_b-below : (a b : ℕ) (s : List ℕ) → b < 255 → sum_b a b s < 255
unfolding sum_b
sum_b-below a b [] h = h
sum_b-below a b (x ∷ xs) h =
    sum_b-below ((a + x) % 255) ((b + (a + x) % 255) % 255) xs (mod-lt (b + (a + x) % 255) (omega arith))

-- ---- parts of two lists, one after the other
module _ (s t : List ℕ) (k n : ℕ) where
  pub part-first : k + n ≤ length s → part (s ++ t) k n ≡ part s k n
  part-first h =
      let l : n ≤ length (drop k s) = simp length-drop (omega arith) in
      ap (take n) (drop-append-le k s t (omega arith)) ∙ take-append-le n (drop k s) t l

  pub part-second : part (s ++ t) (length s + k) n ≡ part t k n
  part-second = ap (take n) (drop-append-add s t k)

-- ---- a block
module _ (used : List ℕ) (fits : length used ≤ 510) where
  pub body-length : length (body_of used) ≡ 510
  unfolding body_of
  body-length = simp (length-append, length-replicate) (omega arith)

  sealed-body : sealed used ≡ body_of used ++ sum_a 0 (body_of used) ∷ sum_b 0 0 (body_of used) ∷ []
  unfolding sealed end_of body_of
  sealed-body = sym (append_assoc used (zeros (510 - length used)) (sum_a 0 (body_of used) ∷ sum_b 0 0 (body_of used) ∷ []))

  pub sealed-length : length (sealed used) ≡ 512
  sealed-length =
      ap length sealed-body ∙ length-append (body_of used) (sum_a 0 (body_of used) ∷ sum_b 0 0 (body_of used) ∷ [])
      ∙ ap (λ (n : ℕ). n + 2) body-length

  pub end-length : length used + length (end_of used) ≡ 512
  unfolding sealed
  end-length = sym (length-append used (end_of used)) ∙ sealed-length

  sealed-taken : part (sealed used) 0 510 ≡ body_of used
  sealed-taken = ap (take 510) sealed-body ∙ take_at (body_of used) (sum_a 0 (body_of used) ∷ sum_b 0 0 (body_of used) ∷ []) 510 body-length

  -- bytes 510 and 511 are the sums of those before them
  pub sealed-sum_a : byte_at (sealed used) 510 ≡ sum_a 0 (part (sealed used) 0 510)
  sealed-sum_a =
      ap (λ (s : List ℕ). byte_at s 510) sealed-body
      ∙ get_or_at (body_of used) (sum_a 0 (body_of used)) (sum_b 0 0 (body_of used) ∷ []) 0 510 body-length
      ∙ ap (sum_a 0) (sym sealed-taken)

  pub sealed-sum_b : byte_at (sealed used) 511 ≡ sum_b 0 0 (part (sealed used) 0 510)
  sealed-sum_b =
      let one = ap (λ (n : ℕ). n + 1) body-length in
      ap₂ byte_at sealed-body (sym one)
      ∙ get_or-append-add (body_of used) (sum_a 0 (body_of used) ∷ sum_b 0 0 (body_of used) ∷ []) 1 0
      ∙ ap (sum_b 0 0) (sym sealed-taken)

  -- parts of the used bytes
  pub sealed-part : (k n : ℕ) → k + n ≤ length used → part (sealed used) k n ≡ part used k n
  unfolding sealed
  sealed-part k n h = part-first used (end_of used) k n h

  -- each byte before the sums is the used one, or 0 where there is none
  pub sealed-byte : (i : ℕ) → i < 510 → byte_at (sealed used) i ≡ byte_at used i
  unfolding body_of
  sealed-byte i h =
      let inside : i < length (body_of used) = rw body-length h in
      ap (λ (s : List ℕ). byte_at s i) sealed-body
      ∙ get_or-append (body_of used) (sum_a 0 (body_of used) ∷ sum_b 0 0 (body_of used) ∷ []) 0 i inside
      ∙ padded-byte used (510 - length used) i

-- zeros at the end of the used bytes are the unused ones
module _ (used : List ℕ) (n : ℕ) (fits : length used + n ≤ 510) where
  padded-long : length (used ++ zeros n) ≤ 510
  padded-long = rw (length-append, length-replicate) fits

  padded-body : body_of (used ++ zeros n) ≡ body_of used
  unfolding body_of
  padded-body =
      let left : n + (510 - length (used ++ zeros n)) ≡ 510 - length used = rw (length-append, length-replicate) (omega arith) in
      append_assoc used (zeros n) (zeros (510 - length (used ++ zeros n)))
      ∙ ap (λ (z : List ℕ). used ++ z) (replicate-append-replicate n (510 - length (used ++ zeros n)) 0 ∙ ap zeros left)

  pub sealed-padded : sealed (used ++ zeros n) ≡ sealed used
  sealed-padded =
      sealed-body (used ++ zeros n) padded-long
      ∙ ap (λ (s : List ℕ). s ++ sum_a 0 s ∷ sum_b 0 0 s ∷ []) padded-body ∙ sym (sealed-body used (omega arith))
