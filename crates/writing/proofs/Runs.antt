-- Records that stand in bytes one right after the other. Assumes nothing.
use Prim.Native.Nat.{ℕ, zero, suc, ◌+◌, ◌-◌, ◌*◌, ◌/◌, ◌%◌, ◌≤◌, ◌<◌}
use mathlib.Core.Path.{◌≡◌, refl, sym, ap, ap₂, ◌∙◌}
use mathlib.Core.List.{List, [], ◌∷◌, ◌++◌, flatten, append_assoc, append-nil}
use native.Mathlib.Nat.{mul-zero, mul-suc, add-sub_cancel_left, div-add-mod, mul-div_right}
use native.Mathlib.Omega.{arith}
use lib.ListN.{length, take, drop, length-drop, drop_of_length-le, take-append-drop}
use lib.Seq.{ext_get_or, drop-drop}
use Rattle.fields.specs.Bytes.{part}
use Rattle.fields.proofs.Laws.{part_length}
use Rattle.header.specs.declared.edition.Edition.{Edition}
use Rattle.header.specs.declared.edition.Edition.TheVariants.{One}
use Rattle.header.specs.declared.layout.Kind.{Kind}
use Rattle.header.specs.Layout.{record_size}
use Rattle.header.proofs.Editions.{size-least}
use Rattle.records.specs.Rules.{record_in, run_record, run_records}
use Rattle.records.proofs.BlockRuns.{size-some}
use Rattle.records.proofs.Parts.{run-count, run-record, run_inside}
use Rattle.writing.specs.Laid.{Sized}
use Rattle.writing.proofs.Packed.{flatten-length, flatten-part}

module _ (size : ℕ) (some : 1 ≤ size) (bytes : List ℕ) where
  pub run_length : (i : ℕ) → i < length bytes / size → length (record_in (run_records size bytes) i) ≡ size
  run_length i h = ap length (run-record size bytes i h) ∙ part_length bytes (size * i) size (run_inside size bytes some i h)

  pub run-sized : Sized size (run_records size bytes)
  run-sized i h = run_length i (omega (arith, run-count size bytes))

  -- as code takes the record that begins at `at`
  pub run-taken : (i at n : ℕ) → i < length bytes / size → at ≡ size * i → n ≡ size
      → take (at + n - at) (drop at bytes) ≡ record_in (run_records size bytes) i
  run-taken i at n h e m = rw (e, m, add-sub_cancel_left) (sym (run-record size bytes i h))

-- ---- whole records and their bytes
module _ (size : ℕ) where
  -- the first n records of a list as a run, and then the others
  pub run-front : (n : ℕ) (run : List ℕ) (records : List (List ℕ)) → length run ≡ size * n → n ≤ length records
      → ((q : ℕ) → q < n → run_record size run q ≡ record_in records q) → flatten records ≡ run ++ flatten (drop n records)
  unfolding flatten
  run-front zero [] records long few same = refl
  run-front zero (x ∷ xs) records long few same = absurd (omega (arith, mul-zero size))
  run-front (suc n) run [] long few same = absurd (omega arith)
  run-front (suc n) run (r ∷ rs) long few same =
      let first : take size run ≡ r = rw mul-zero at (same 0 (omega arith)) in
      let next : (q : ℕ) → size + size * q ≡ size * suc q = λ q. omega (arith, mul-suc size q) in
      let later = run-front n (drop size run) rs (rw length-drop (omega (arith, mul-suc size n))) (omega arith)
      (λ q h. ap (take size) (drop-drop (size * q) size run) ∙ ap (λ (k : ℕ). part run k size) (next q) ∙ same (suc q) (omega arith)) in
      ap₂ (λ (x y : List ℕ). x ++ y) (sym first) later ∙ sym (append_assoc (take size run) (drop size run) (flatten (drop n rs)))
      ∙ ap (λ (x : List ℕ). x ++ flatten (drop n rs)) (take-append-drop size run)

  -- bytes that are whole records, taken apart and joined again
  pub run-joined : (bytes : List ℕ) → length bytes % size ≡ 0 → flatten (run_records size bytes) ≡ bytes
  unfolding flatten
  run-joined bytes whole =
      let n : ℕ = length bytes / size in
      let count = run-count size bytes in
      let past : length (run_records size bytes) ≤ n = omega arith in
      run-front n bytes (run_records size bytes) (omega (arith, div-add-mod (length bytes) size)) (omega arith)
      (λ q h. sym (run-record size bytes q h))
      ∙ ap (λ (rs : List (List ℕ)). bytes ++ flatten rs) (drop_of_length-le (run_records size bytes) past) ∙ append-nil bytes

  -- records joined and taken apart again
  pub run-split : 1 ≤ size → (records : List (List ℕ)) → Sized size records → run_records size (flatten records) ≡ records
  run-split some records sized =
      let count : length (run_records size (flatten records)) ≡ length records =
      run-count size (flatten records) ∙ ap (λ (n : ℕ). n / size) (flatten-length size records sized) ∙ mul-div_right (length records) some in
      ext_get_or [] (run_records size (flatten records)) records count
      (λ i h.
      let inside : i < length (flatten records) / size = omega (arith, run-count size (flatten records)) in
      run-record size (flatten records) i inside ∙ flatten-part size records i sized (omega arith))

-- ---- the kinds
-- the record of a kind at place i, as code takes the n bytes from `at` on
module _ (edition : Edition) (kind : Kind) (bytes : List ℕ) (i at n : ℕ) (h : i < length bytes / record_size edition kind)
    (e : at ≡ record_size edition kind * i) (m : n ≡ record_size edition kind) where
  pub lent-end : at + n ≤ length bytes
  lent-end = omega (arith, run_inside (record_size edition kind) bytes (size-some edition kind) i h)

  pub lent_is : take (at + n - at) (drop at bytes) ≡ record_in (run_records (record_size edition kind) bytes) i
  lent_is = run-taken (record_size edition kind) (size-some edition kind) bytes i at n h e m

  pub lent-long : length (take (at + n - at) (drop at bytes)) ≡ record_size edition kind
  lent-long = ap length lent_is ∙ run_length (record_size edition kind) (size-some edition kind) bytes i h

  pub lent-least : record_size One kind ≤ length (take (at + n - at) (drop at bytes))
  lent-least = rw lent-long (size-least edition kind)
