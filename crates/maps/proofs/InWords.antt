-- A map's bytes, eight at a time. Assumes nothing.
use Prim.Native.Nat.{ℕ, zero, suc, ◌+◌, ◌-◌, ◌*◌, ◌/◌, ◌%◌, ◌^◌, ◌≤◌, ◌<◌}
use mathlib.Core.Path.{◌≡◌, refl, sym, ap, ap₂, ◌∙◌, fun_ext}
use mathlib.Core.Bool.{Bool, true, false, cond, ◌&&◌}
use mathlib.Core.List.{List, [], ◌∷◌}
use native.Mathlib.Nat.{zero-add, add-suc, div-div-eq-div-mul}
use native.Mathlib.Omega.{arith}
use native.Mathlib.Numerals.{add-one}
use borrow.Author.Tests.{eq-eqb, ne_eqb, eqb-true}
use lib.Dec.{eqb}
use lib.ListN.{length, drop, drop_of_length-le}
use lib.Pow.{pow-add}
use lib.Seq.{drop-cons, ext_get_or}
use Rattle.fields.specs.Bytes.{byte_at, AreBytes, number2, number4, number8}
use Rattle.fields.specs.Names.{same_bytes}
use Rattle.fields.specs.Scan.{list_from}
use Rattle.fields.proofs.Both.{same_truth}
use Rattle.fields.proofs.Meaning.{same-means, same_refl}
use Rattle.fields.proofs.Words.{word_same}
use Rattle.sets.specs.Sets.{collect}
use Rattle.sets.proofs.Has.{collect-below}
use Rattle.access.specs.Rights.{Rights}
use Rattle.maps.specs.Map.{reads_record, map_byte}
use Rattle.maps.specs.Words.{map_word, bytes_of}

-- ---- the bytes of a number
pub bytes-long : (n w : ℕ) → length (bytes_of n w) ≡ n
unfolding bytes_of
bytes-long zero w = refl
bytes-long (suc n) w = ap suc (bytes-long n (w / 256))

pub bytes_small : (n w : ℕ) → AreBytes (bytes_of n w)
unfolding bytes_of
bytes_small zero w k = omega arith
bytes_small (suc n) w zero = omega arith
bytes_small (suc n) w (suc k) = bytes_small n (w / 256) k

-- what is left of them at place i: a byte more
pub bytes-turn : (n i w : ℕ) → i < n → bytes_of (n - i) w ≡ w % 256 ∷ bytes_of (n - (i + 1)) (w / 256)
unfolding bytes_of
bytes-turn n i w h = let left : n - i ≡ suc (n - (i + 1)) = omega arith in ap (λ (m : ℕ). bytes_of m w) left

-- or nothing
pub bytes-end : (n i w : ℕ) → n ≤ i → bytes_of (n - i) w ≡ []
unfolding bytes_of
bytes-end n i w h = let none : n - i ≡ 0 = omega arith in ap (λ (m : ℕ). bytes_of m w) none

-- a loop that compares bytes with those of w, of which r is what is left at place i
module _ (s : List ℕ) (n w i r : ℕ) (long : length s ≡ n) (inv : same_bytes (drop i s) (bytes_of (n - i) r) ≡ same_bytes s (bytes_of n w)) where
  each_at : i < n → (eqb (byte_at s i) (r % 256) && same_bytes (drop (i + 1) s) (bytes_of (n - (i + 1)) (r / 256))) ≡ same_bytes s (bytes_of n w)
  unfolding same_bytes
  each_at h =
      let here : i < length s = omega arith in
      let step : same_bytes (drop i s) (bytes_of (n - i) r) ≡ (eqb (byte_at s i) (r % 256) && same_bytes (drop (i + 1) s) (bytes_of (n - (i + 1)) (r / 256))) =
      rw (drop-cons s i 0 here, bytes-turn n i r h, add-one) in
      sym step ∙ inv

  pub each-stop : i < n → (byte_at s i ≡ r % 256 → ⊥) → false ≡ same_bytes s (bytes_of n w)
  each-stop h e = rw (ne_eqb (byte_at s i) (r % 256) e) at (each_at h)

  pub each_step : i < n → byte_at s i ≡ r % 256 → same_bytes (drop (i + 1) s) (bytes_of (n - (i + 1)) (r / 256)) ≡ same_bytes s (bytes_of n w)
  each_step h e = rw (eq-eqb (byte_at s i) (r % 256) e) at (each_at h)

  pub each-end : n ≤ i → true ≡ same_bytes s (bytes_of n w)
  unfolding same_bytes
  each-end h =
      let past : length s ≤ i = omega arith in
      rw (drop_of_length-le s past, bytes-end n i r h) at inv

-- ---- the eight bytes of a word
-- each by one division
abbrev pub eight_bytes : ℕ → List ℕ
eight_bytes w =
    w % 256 ∷ w / 256 % 256 ∷ w / 65536 % 256 ∷ w / 16777216 % 256 ∷ w / 4294967296 % 256 ∷ w / 1099511627776 % 256 ∷ w / 281474976710656 % 256
    ∷ w / 72057594037927936 % 256 ∷ []

pub bytes-eight : (w : ℕ) → bytes_of 8 w ≡ eight_bytes w
unfolding bytes_of
bytes-eight w =
    let next : (m n : ℕ) → w / m / n ≡ w / (m * n) = div-div-eq-div-mul w in
    rw (next 256 256, next 65536 256, next 16777216 256, next 4294967296 256, next 1099511627776 256, next 281474976710656 256)

module _ (w : ℕ) (word : w < 2 ^ 64) where
  -- they are the number again
  bytes_back : number8 (bytes_of 8 w) 0 ≡ w
  unfolding bytes_of number8 number4 number2
  bytes_back = omega arith

  -- so eight bytes are those of a word exactly if their number is the word
  pub word-compared : (s : List ℕ) → length s ≡ 8 → AreBytes s → eqb (number8 s 0) w ≡ same_bytes s (bytes_of 8 w)
  word-compared s long small = same_truth _ _ (λ e. rw (equal (eqb-true _ _ e)) (same_refl (bytes_of 8 w))) (λ e. eq-eqb _ _ (number (same-means _ _ e)))
    where
      equal : number8 s 0 ≡ w → s ≡ bytes_of 8 w
      equal e =
          ext_get_or 0 s (bytes_of 8 w) (long ∙ sym (bytes-long 8 w))
          (λ j h. let low : j < 8 = omega arith in
          rw zero-add at (word_same s (bytes_of 8 w) small (bytes_small 8 w) 0 (e ∙ sym bytes_back) j low))

      number : s ≡ bytes_of 8 w → number8 s 0 ≡ w
      number e = ap (λ (t : List ℕ). number8 t 0) e ∙ bytes_back

-- ---- the bytes of a set of places
module _ (f : ℕ → Bool) where
  -- the first eight places, and those after them
  collect-eight : (m : ℕ) → collect f (8 + m) ≡ collect f 8 + 256 * collect (λ i. f (8 + i)) m
  unfolding collect
  collect-eight zero = omega arith
  collect-eight (suc m) = rw add-suc (at (f (8 + m)) (collect-eight m))
    where
      rest : ℕ
      rest = collect (λ i. f (8 + i)) m

      at : (t : Bool) → collect f (8 + m) ≡ collect f 8 + 256 * rest
          → collect f (8 + m) + cond t (2 ^ (8 + m)) 0 ≡ collect f 8 + 256 * (rest + cond t (2 ^ m) 0)
      at true ih = omega (arith, pow-add 2 8 m)
      at false ih = omega arith

  low_byte : (m : ℕ) → collect f (8 + m) % 256 ≡ collect f 8
  low_byte m = omega (arith, collect-eight m, collect-below f 8)

  high-bytes : (m : ℕ) → collect f (8 + m) / 256 ≡ collect (λ i. f (8 + i)) m
  high-bytes m = omega (arith, collect-eight m, collect-below f 8)

-- byte j of them holds the places from 8 j on
collect-bytes : (g : ℕ → Bool) (n m j : ℕ) → n ≤ m → bytes_of n (collect (λ i. g (8 * j + i)) (8 * m)) ≡ list_from (λ b. collect (λ i. g (8 * b + i)) 8) n j
unfolding bytes_of list_from
collect-bytes g zero m j h = refl
collect-bytes g (suc n) zero j h = absurd (omega arith)
collect-bytes g (suc n) (suc m) j h =
    let f : ℕ → Bool = λ i. g (8 * j + i) in
    let places : 8 * suc m ≡ 8 + 8 * m = omega arith in
    let after : ℕ → Bool = λ i. g (8 * suc j + i) in
    let next : ◌≡◌ {A = ℕ → Bool} (λ i. f (8 + i)) after = fun_ext (λ i. let e : 8 * j + (8 + i) ≡ 8 * suc j + i = omega arith in ap g e) in
    ap (λ (p : ℕ). bytes_of (suc n) (collect f p)) places
    ∙ ap₂ (λ (x : ℕ) (xs : List ℕ). x ∷ xs) (low_byte f (8 * m))
    (ap (bytes_of n) (high-bytes f (8 * m) ∙ ap (λ (q : ℕ → Bool). collect q (8 * m)) next) ∙ collect-bytes g n m (suc j) (omega arith))

-- ---- those of a map
module _ (im : List ℕ) (rights : Rights) where
  -- the first n bytes of word k are the map's bytes from 8 k on
  word-bytes : (k n : ℕ) → n ≤ 8 → bytes_of n (map_word im rights k) ≡ list_from (map_byte im rights) n (8 * k)
  unfolding map_word map_byte
  word-bytes k n h =
      let reads : ℕ → Bool = reads_record im rights in
      let places : ◌≡◌ {A = ℕ → Bool} (λ i. reads (64 * k + i)) (λ i. reads (8 * (8 * k) + i)) =
      fun_ext (λ i. let e : 64 * k + i ≡ 8 * (8 * k) + i = omega arith in ap reads e) in
      ap (λ (f : ℕ → Bool). bytes_of n (collect f 64)) places ∙ collect-bytes reads n 8 (8 * k) h

  -- as a loop has them that stands at byte `at`
  pub word-part : (k at end w : ℕ) → w ≡ map_word im rights k → at ≡ 8 * k → end ≤ at + 8 → bytes_of (end - at) w ≡ list_from (map_byte im rights) (end - at) at
  word-part k at end w is here near =
      ap (bytes_of (end - at)) is ∙ word-bytes k (end - at) (omega arith) ∙ ap (list_from (map_byte im rights) (end - at)) (sym here)

  -- bytes that are those of the word, or not, are those of the map there, or not
  pub part-compared : (k at end w : ℕ) (s : List ℕ) (t : Bool) → w ≡ map_word im rights k → at ≡ 8 * k → end ≤ at + 8
      → t ≡ same_bytes s (bytes_of (end - at) w) → same_bytes s (list_from (map_byte im rights) (end - at) at) ≡ t
  part-compared k at end w s t is here near e = ap (same_bytes s) (sym (word-part k at end w is here near)) ∙ sym e
