-- The map for whoever may read every label. Assumes nothing.
use Prim.Native.Nat.{ℕ, suc, ◌+◌, ◌-◌, ◌*◌, ◌/◌, ◌%◌, ◌≤◌, ◌<◌, min}
use mathlib.Core.Path.{◌≡◌, refl, sym, ap, ◌∙◌, fun_ext}
use mathlib.Core.Bool.{Bool, true, false, ◌&&◌, and-true, and_assoc}
use mathlib.Core.List.{List, [], ◌∷◌}
use native.Mathlib.Nat.{sub-zero}
use native.Mathlib.Omega.{arith}
use borrow.Author.Tests.{lt-ltb, le-ltb, ltb-true, ltb-false, eq-eqb, eqb-true}
use lib.Bits.{bit_and, and_le_l, and_le_r}
use lib.Dec.{ltb, eqb}
use lib.ListN.{length, take, drop, drop_of_length-le}
use lib.Seq.{length-take-le, drop-cons}
use Rattle.fields.specs.Bytes.{byte_at, all}
use Rattle.fields.specs.Names.{same_bytes}
use Rattle.fields.specs.Scan.{list_from}
use Rattle.fields.proofs.Both.{parts, both, same_truth}
use Rattle.fields.proofs.Laws.{all-at}
use Rattle.fields.proofs.Scan.{list_length, list-turn, list-end}
use Rattle.sets.specs.Sets.{has, all_below, collect}
use Rattle.sets.proofs.Has.{has-ext, all_below-has, collect-has}
use Rattle.header.specs.Layout.{labels}
use Rattle.labels.specs.Label.{label_at}
use Rattle.access.specs.Rights.{Rights}
use Rattle.access.specs.Verdicts.{reads_all, reads_label}
use Rattle.maps.specs.Map.{reads_record, map_length, map_byte, map_of}
use Rattle.maps.specs.Whole.{whole_byte, whole_map, all_set}
use Rattle.maps.proofs.ByParts.{compare-stop, compare-step, compare-end}

-- ---- bytes of the whole map
module _ (n k : ℕ) where
  -- eight records are left for a full byte
  pub byte_full : 8 * k + 8 ≤ n → whole_byte n k ≡ 255
  unfolding whole_byte all_below
  byte_full h = let all : min 8 (n - 8 * k) ≡ 8 = omega arith in rw all

  -- the last byte has a bit for each record that is left
  pub byte_last : k ≡ n / 8 → whole_byte n k ≡ all_below (n % 8)
  unfolding whole_byte
  byte_last e = let rest : min 8 (n - 8 * k) ≡ n % 8 = omega arith in ap all_below rest

pub whole_long : (n : ℕ) → length (whole_map n) ≡ (n + 7) / 8
unfolding whole_map
whole_long n = list_length (whole_byte n) ((n + 7) / 8) 0

-- ---- bytes with all their bits
-- two of them exactly if their intersection is
full-both : (a b : ℕ) → a < 256 → b < 256 → eqb (bit_and a b) 255 ≡ (eqb a 255 && eqb b 255)
full-both a b p q =
    same_truth _ _
    (λ e.
    let full : bit_and a b ≡ 255 = eqb-true _ _ e in
    both _ _ (eq-eqb a 255 (omega (arith, and_le_l a b))) (eq-eqb b 255 (omega (arith, and_le_r a b))))
    (λ e.
    let t = parts _ _ e in
    rw (eqb-true a 255 t.0, eqb-true b 255 t.1))

-- a loop over bytes, where x is the intersection of those before place i
pub record Full (s : List ℕ) (i x : ℕ) : Type 0 where
  pub byte : x < 256
  pub rest : (eqb x 255 && all_set (drop i s)) ≡ all_set s

pub full_start : (s : List ℕ) → Full s 0 255
full_start s = record { byte = omega arith; rest = refl }

module _ (s : List ℕ) (i x : ℕ) (f : Full s i x) where
  pub full-turn : i < length s → byte_at s i < 256 → Full s (i + 1) (bit_and x (byte_at s i))
  full-turn h small =
      record {
        byte = omega (arith, f.byte, and_le_l x (byte_at s i));
        rest =
            rw (full-both x (byte_at s i) f.byte small, and_assoc, ← all-at (λ (y : ℕ). eqb y 255) s i h) f.rest;
      }

  pub full-end : length s ≤ i → eqb x 255 ≡ all_set s
  unfolding all
  full-end h = sym (and-true (eqb x 255)) ∙ (rw (drop_of_length-le s h) at f.rest)

-- ---- bytes that are compared with the whole map
-- those before the last byte are all full
full-same : (n : ℕ) (s : List ℕ) (k : ℕ) → 8 * (k + length s) ≤ n → same_bytes s (list_from (whole_byte n) (length s) k) ≡ all_set s
unfolding same_bytes list_from all
full-same n [] k h = refl
full-same n (x ∷ s) k h = rw (byte_full n k (omega arith), full-same n s (suc k) (omega arith))

module _ (n : ℕ) (s : List ℕ) (long : length s ≡ (n + 7) / 8) where
  -- the full bytes, as code takes them
  abbrev front : List ℕ
  front = take (n / 8 - 0) (drop 0 s)

  front_same : same_bytes front (list_from (whole_byte n) (n / 8 - 0) 0) ≡ all_set front
  front_same =
      let all : length front ≡ n / 8 - 0 = length-take-le (n / 8 - 0) s (omega arith) in
      ap (λ (m : ℕ). same_bytes front (list_from (whole_byte n) m 0)) (sym all) ∙ full-same n front 0 (omega arith)

  whole-start : same_bytes (drop 0 s) (list_from (whole_byte n) ((n + 7) / 8 - 0) 0) ≡ same_bytes s (whole_map n)
  unfolding whole_map
  whole-start = rw sub-zero

  pub whole-differs : all_set front ≡ false → false ≡ same_bytes s (whole_map n)
  whole-differs e = compare-stop (whole_byte n) s ((n + 7) / 8) long 0 _ (n / 8) (omega arith) (omega arith) whole-start (front_same ∙ e)

  whole-rest : all_set front ≡ true → same_bytes (drop (n / 8) s) (list_from (whole_byte n) ((n + 7) / 8 - n / 8) (n / 8)) ≡ same_bytes s (whole_map n)
  whole-rest e = compare-step (whole_byte n) s ((n + 7) / 8) long 0 _ (n / 8) (omega arith) (omega arith) whole-start (front_same ∙ e)

  -- where all bytes are full
  pub whole-full : all_set front ≡ true → n % 8 ≡ 0 → true ≡ same_bytes s (whole_map n)
  whole-full e none = compare-end (whole_byte n) s ((n + 7) / 8) long (n / 8) _ (omega arith) (whole-rest e)

  -- where the last has a bit for each record that is left
  pub whole-last : all_set front ≡ true → (n % 8 ≡ 0 → ⊥) → (v : ℕ) → v ≡ all_below (n % 8) → eqb (byte_at s (n / 8)) v ≡ same_bytes s (whole_map n)
  unfolding same_bytes
  whole-last e some v is =
      let inside : n / 8 < (n + 7) / 8 = omega arith in
      let here : n / 8 < length s = omega arith in
      let past : length s ≤ suc (n / 8) = omega arith in
      let turn = list-turn (whole_byte n) ((n + 7) / 8) (n / 8) inside in
      let end = list-end (whole_byte n) ((n + 7) / 8) (n / 8 + 1) (omega arith) in
      let rest = rw (turn, end, drop-cons s (n / 8) 0 here, drop_of_length-le s past) at (whole-rest e) in
      sym (and-true (eqb (byte_at s (n / 8)) v)) ∙ rw (is, ← byte_last n (n / 8) refl) rest

-- ---- it is the map
module _ (im : List ℕ) (rights : Rights) (all : reads_all rights ≡ true) where
  -- every record is read
  every-record : (p : ℕ) → reads_record im rights p ≡ ltb p (labels im)
  unfolding reads_record reads_label
  every-record p = at (ltb p (labels im))
    where
      at : (t : Bool) → (t && reads_label rights (label_at im p)) ≡ t
      at true = rw all
      at false = refl

  every_byte : (k : ℕ) → map_byte im rights k ≡ whole_byte (labels im) k
  unfolding map_byte whole_byte
  every_byte k = has-ext _ _ same
    where
      n : ℕ
      n = labels im

      left : ℕ
      left = min 8 (n - 8 * k)

      f : ℕ → Bool
      f i = reads_record im rights (8 * k + i)

      at : (i : ℕ) (s t : Bool) → ltb i 8 ≡ s → ltb (8 * k + i) n ≡ t → (s && t) ≡ ltb i left
      at i true true d e =
          let low : i < 8 = ltb-true i 8 d in
          let inside : 8 * k + i < n = ltb-true (8 * k + i) n e in
          sym (lt-ltb i left (omega arith))
      at i true false d e = let past : n ≤ 8 * k + i = ltb-false (8 * k + i) n e in sym (le-ltb i left (omega arith))
      at i false t d e = let high : 8 ≤ i = ltb-false i 8 d in sym (le-ltb i left (omega arith))

      same : (i : ℕ) → has (collect f 8) i ≡ has (all_below left) i
      same i =
          collect-has f 8 i ∙ ap (λ (t : Bool). ltb i 8 && t) (every-record (8 * k + i))
          ∙ at i (ltb i 8) (ltb (8 * k + i) n) refl refl ∙ sym (all_below-has left i)

  pub every-label : map_of im rights ≡ whole_map (labels im)
  unfolding map_of map_length whole_map
  every-label = ap (λ (byte : ℕ → ℕ). list_from byte ((labels im + 7) / 8) 0) (fun_ext every_byte)
