-- What each bit of the map tells, and how long the map is. Assumes nothing.
use Prim.Native.Nat.{ℕ, zero, suc, ◌+◌, ◌-◌, ◌*◌, ◌/◌, ◌%◌, ◌≤◌, ◌<◌}
use mathlib.Core.Path.{◌≡◌, refl, sym, ap, ◌∙◌}
use mathlib.Core.Bool.{Bool, true, false}
use mathlib.Core.List.{List}
use native.Mathlib.Nat.{zero-add, add-zero}
use native.Mathlib.Omega.{arith}
use borrow.Author.Tests.{lt-ltb, le-ltb, ltb-true, ltb-false}
use lib.Dec.{ltb}
use lib.ListN.{length, get_or-eq_default}
use lib.Seq.{ext_get_or}
use Rattle.fields.specs.Bytes.{byte_at, AreBytes}
use Rattle.fields.proofs.Scan.{list_length, list_at}
use Rattle.fields.proofs.Meaning.{same-means, same_refl}
use Rattle.sets.specs.Sets.{has, collect}
use Rattle.sets.proofs.Has.{none_has, has-ext, collect-below, collect-has, collect-pass}
use Rattle.sets.proofs.Bounds.{below-lacks}
use Rattle.header.specs.Layout.{labels}
use Rattle.header.specs.Limits.{Counted}
use Rattle.header.proofs.Editions.{counted-labels}
use Rattle.access.specs.Rights.{Rights}
use Rattle.maps.specs.Map.{bit_of, reads_record, map_length, map_byte, map_of, map_rule}
use Rattle.maps.specs.Words.{map_word}

module _ (im : List ℕ) where
  -- as few bytes as hold a bit for each label record
  pub length-holds : labels im ≤ 8 * map_length im
  unfolding map_length
  length-holds = omega arith

  pub length-least : 8 * map_length im < labels im + 8
  unfolding map_length
  length-least = omega arith

module _ (im : List ℕ) (rights : Rights) where
  pub map-long : length (map_of im rights) ≡ map_length im
  unfolding map_of
  map-long = list_length (map_byte im rights) (map_length im) 0

  pub byte-at : (k : ℕ) → k < map_length im → byte_at (map_of im rights) k ≡ map_byte im rights k
  unfolding map_of
  byte-at k h = list_at (map_byte im rights) (map_length im) 0 k 0 h ∙ ap (map_byte im rights) (zero-add k)

  pub byte-below : (k : ℕ) → map_byte im rights k < 256
  unfolding map_byte
  byte-below k = collect-below (λ i. reads_record im rights (8 * k + i)) 8

  -- past the last record no bit is set
  past-last : (p : ℕ) → labels im ≤ p → reads_record im rights p ≡ false
  unfolding reads_record
  past-last p h = rw (le-ltb p (labels im) h)

  -- so a word has all its bits once the records are at their end
  pub word-upto : (k n : ℕ) → n ≤ 64 → (n < 64 → labels im ≤ 64 * k + n)
      → collect (λ i. reads_record im rights (64 * k + i)) n ≡ map_word im rights k
  unfolding map_word
  word-upto k n small end = sym (spare (64 - n) (omega arith)) ∙ ap (collect f) all
    where
      f : ℕ → Bool
      f i = reads_record im rights (64 * k + i)

      all : n + (64 - n) ≡ 64
      all = omega arith

      spare : (d : ℕ) → n + d ≤ 64 → collect f (n + d) ≡ collect f n
      spare zero h = ap (collect f) (add-zero n)
      spare (suc d) h =
          let last : labels im ≤ 64 * k + (n + d) = omega (arith, end (omega arith)) in
          let next : n + suc d ≡ n + d + 1 = omega arith in
          ap (collect f) next ∙ collect-pass f (n + d) (past-last (64 * k + (n + d)) last) ∙ spare d (omega arith)

  -- every byte of it is a byte
  pub map-small : (k : ℕ) → byte_at (map_of im rights) k < 256
  map-small k = at (ltb k (map_length im)) refl
    where
      at : (t : Bool) → ltb k (map_length im) ≡ t → byte_at (map_of im rights) k < 256
      at true e = rw (byte-at k (ltb-true k (map_length im) e)) (byte-below k)
      at false e =
          let past : length (map_of im rights) ≤ k = rw map-long (ltb-false k (map_length im) e) in
          rw (get_or-eq_default (map_of im rights) 0 past) (omega arith)

  inside : (p : ℕ) → p / 8 < map_length im → bit_of (map_of im rights) p ≡ reads_record im rights p
  unfolding bit_of map_byte
  inside p h =
      let low : p % 8 < 8 = omega arith in
      let here : 8 * (p / 8) + p % 8 ≡ p = omega arith in
      ap (λ (x : ℕ). has x (p % 8)) (byte-at (p / 8) h) ∙ collect-has (λ i. reads_record im rights (8 * (p / 8) + i)) 8 (p % 8)
      ∙ rw (lt-ltb (p % 8) 8 low) (ap (reads_record im rights) here)

  outside : (p : ℕ) → map_length im ≤ p / 8 → bit_of (map_of im rights) p ≡ reads_record im rights p
  unfolding bit_of map_length
  outside p h =
      let past : labels im ≤ p = omega arith in
      ap (λ (x : ℕ). has x (p % 8)) (get_or-eq_default (map_of im rights) 0 (rw map-long h)) ∙ none_has (p % 8) ∙ sym (past-last p past)

  -- bit p, whatever p, is set exactly if there is a p-th label record and its label may be read
  pub bit_is : (p : ℕ) → bit_of (map_of im rights) p ≡ reads_record im rights p
  bit_is p = at (ltb (p / 8) (map_length im)) refl
    where
      at : (t : Bool) → ltb (p / 8) (map_length im) ≡ t → bit_of (map_of im rights) p ≡ reads_record im rights p
      at true e = inside p (ltb-true (p / 8) (map_length im) e)
      at false e = outside p (ltb-false (p / 8) (map_length im) e)

  -- ---- lent bytes that are judged right are the map, and the map is judged right
  pub rule-means : (bits : List ℕ) → map_rule im rights bits ≡ true → bits ≡ map_of im rights
  unfolding map_rule
  rule-means bits e = same-means bits (map_of im rights) e

  pub rule-holds : map_rule im rights (map_of im rights) ≡ true
  unfolding map_rule
  rule-holds = same_refl (map_of im rights)

  -- so they have a bit for each label record
  pub rule-enough : (bits : List ℕ) → map_rule im rights bits ≡ true → labels im ≤ 8 * length bits
  rule-enough bits e = rw (rule-means bits e, map-long) (length-holds im)

  -- ---- bytes with the right length and the right bits are the map
  byte-same : (bits : List ℕ) → AreBytes bits → ((p : ℕ) → bit_of bits p ≡ reads_record im rights p)
      → (k : ℕ) → byte_at bits k ≡ byte_at (map_of im rights) k
  unfolding bit_of
  byte-same bits small right k = has-ext (byte_at bits k) (byte_at (map_of im rights) k) (λ i. at i (ltb i 8) refl)
    where
      at : (i : ℕ) (t : Bool) → ltb i 8 ≡ t → has (byte_at bits k) i ≡ has (byte_at (map_of im rights) k) i
      at i true e =
          let low : i < 8 = ltb-true i 8 e in
          let byte : (8 * k + i) / 8 ≡ k = omega arith in
          let place : (8 * k + i) % 8 ≡ i = omega arith in
          let both = right (8 * k + i) ∙ sym (bit_is (8 * k + i)) in
          rw (byte, place) at both
      at i false e =
          let high : 8 ≤ i = ltb-false i 8 e in
          below-lacks (byte_at bits k) 8 (small k) i high ∙ sym (below-lacks (byte_at (map_of im rights) k) 8 (map-small k) i high)

  pub map-unique : (bits : List ℕ) → length bits ≡ map_length im → AreBytes bits
      → ((p : ℕ) → bit_of bits p ≡ reads_record im rights p) → bits ≡ map_of im rights
  map-unique bits long small right = ext_get_or 0 bits (map_of im rights) (long ∙ sym map-long) (λ k h. byte-same bits small right k)

-- no map is longer than that of 1,680 labels
pub map-at-most : (im : List ℕ) → Counted im → map_length im ≤ 210
unfolding map_length
map-at-most im k = omega (arith, counted-labels im k)
