-- The blocks of a kind, one after the other: block j stands 512 * j bytes on, and record i stands in it by its place. Assumes nothing.
use Prim.Native.Nat.{ℕ, zero, suc, ◌+◌, ◌*◌, ◌≤◌, ◌<◌}
use mathlib.Core.Path.{◌≡◌, refl, sym, ap, ap₂, ◌∙◌}
use mathlib.Core.List.{List, [], ◌∷◌, ◌++◌, flatten}
use native.Mathlib.Nat.{add-zero, add-suc, suc-add, mul-zero, mul-suc, mul-le-mul_left}
use native.Mathlib.Omega.{arith}
use lib.ListN.{length, get_or, take, drop, length-append, length-take, length-drop}
use lib.Seq.{take_at, drop-drop, get_or-take, get_or-drop}
use Rattle.fields.specs.Bytes.{part}
use Rattle.writing.specs.Laid.{head_of, block_of, Sized, kind_blocks}
use Rattle.writing.proofs.Sealed.{sealed-length, sealed-part, part-second}

-- ---- records one after the other
module _ (size : ℕ) where
  later : (r : List ℕ) (rs : List (List ℕ)) → Sized size (r ∷ rs) → Sized size rs
  later r rs s i h = s (suc i) (omega arith)

  pub flatten-length : (records : List (List ℕ)) → Sized size records → length (flatten records) ≡ size * length records
  unfolding flatten
  flatten-length [] s = sym (mul-zero size)
  flatten-length (r ∷ rs) s =
      let ih : length (flatten rs) ≡ size * length rs = flatten-length rs (later r rs s) in
      let first : length r ≡ size = s 0 (omega arith) in
      omega (arith, length-append r (flatten rs), mul-suc size (length rs))

  pub flatten-part : (records : List (List ℕ)) (i : ℕ) → Sized size records → i < length records
      → part (flatten records) (size * i) size ≡ get_or records i []
  unfolding flatten
  flatten-part [] i s h = absurd (omega arith)
  flatten-part (r ∷ rs) zero s h = rw mul-zero (take_at r (flatten rs) size (s 0 h))
  flatten-part (r ∷ rs) (suc i) s h =
      let first : length r ≡ size = s 0 (omega arith) in
      let at : size * suc i ≡ length r + size * i = omega (arith, mul-suc size i) in
      ap (λ (k : ℕ). part (r ++ flatten rs) k size) at ∙ part-second r (flatten rs) (size * i) size
      ∙ flatten-part rs i (later r rs s) (omega arith)

  pub sized-take : (c : ℕ) (records : List (List ℕ)) → Sized size records → Sized size (take c records)
  sized-take c records s i h =
      let l = length-take c records in
      rw (get_or-take c records i [] (omega arith)) (s i (omega arith))

  pub sized-drop : (k : ℕ) (records : List (List ℕ)) → Sized size records → Sized size (drop k records)
  sized-drop k records s i h =
      let l = length-drop k records in
      rw get_or-drop (s (k + i) (omega arith))

-- ---- blocks of records of one size, so many in a block
module _ (kind size capacity : ℕ) (room : 4 + size * capacity ≤ 510) where
  -- a block's used bytes
  module _ (place : ℕ) (records : List (List ℕ)) (sized : Sized size records) where
    pub used-length : length (head_of kind (length records) place ++ flatten records) ≡ 4 + size * length records
    used-length = omega (arith, flatten-length size records sized)

    module _ (few : length records ≤ capacity) where
      pub used-fits : length (head_of kind (length records) place ++ flatten records) ≤ 510
      used-fits = omega (arith, used-length, mul-le-mul_left size few)

      pub block-length : length (block_of kind place records) ≡ 512
      unfolding block_of
      block-length = sealed-length (head_of kind (length records) place ++ flatten records) used-fits

      -- a record of the block
      pub block-record : (i : ℕ) → i < length records → part (block_of kind place records) (4 + size * i) size ≡ get_or records i []
      unfolding block_of
      block-record i h =
          let head = head_of kind (length records) place in
          let last : size * i + size ≤ size * length records = rw mul-suc at (mul-le-mul_left size h) in
          sealed-part (head ++ flatten records) used-fits (4 + size * i) size (omega (arith, used-length))
          ∙ part-second head (flatten records) (size * i) size
          ∙ flatten-part size records i sized h

  few-taken : (records : List (List ℕ)) → length (take capacity records) ≤ capacity
  few-taken records = simp length-take (omega arith)

  first-length : (place : ℕ) (records : List (List ℕ)) → Sized size records → length (block_of kind place (take capacity records)) ≡ 512
  first-length place records sized =
      block-length place (take capacity records) (sized-take size capacity records sized) (few-taken records)

  pub kind-length : (n place : ℕ) (records : List (List ℕ)) → Sized size records → length (kind_blocks kind capacity n place records) ≡ 512 * n
  unfolding kind_blocks
  kind-length zero place records sized = refl
  kind-length (suc n) place records sized =
      let first = block_of kind place (take capacity records) in
      let rest = kind_blocks kind capacity n (suc place) (drop capacity records) in
      omega (
        arith,
        length-append first rest,
        first-length place records sized,
        kind-length n (suc place) (drop capacity records) (sized-drop size capacity records sized),
      )

  -- block j holds the records from capacity * j on
  pub kind-block : (n place : ℕ) (records : List (List ℕ)) (j : ℕ) → Sized size records → j < n
      → part (kind_blocks kind capacity n place records) (512 * j) 512 ≡ block_of kind (place + j) (take capacity (drop (capacity * j) records))
  unfolding kind_blocks
  kind-block zero place records j sized h = absurd (omega arith)
  kind-block (suc n) place records zero sized h =
      rw (add-zero, mul-zero)
      (take_at (block_of kind place (take capacity records)) (kind_blocks kind capacity n (suc place) (drop capacity records)) 512
      (first-length place records sized))
  kind-block (suc n) place records (suc j) sized h =
      let first = block_of kind place (take capacity records) in
      let rest = kind_blocks kind capacity n (suc place) (drop capacity records) in
      let at : 512 * suc j ≡ length first + 512 * j = omega (arith, first-length place records sized) in
      let next : capacity + capacity * j ≡ capacity * suc j = omega (arith, mul-suc capacity j) in
      ap (λ (k : ℕ). part (first ++ rest) k 512) at ∙ part-second first rest (512 * j) 512
      ∙ kind-block n (suc place) (drop capacity records) j (sized-drop size capacity records sized) (omega arith)
      ∙ ap₂ (λ (p : ℕ) (l : List (List ℕ)). block_of kind p (take capacity l)) (suc-add place j ∙ sym (add-suc place j))
      (drop-drop (capacity * j) capacity records ∙ ap (λ (k : ℕ). drop k records) next)
