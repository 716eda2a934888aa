-- A part of a run of records: the bytes of the records from one place up to another. Assumes nothing.
use Prim.Native.Nat.{ℕ, ◌+◌, ◌-◌, ◌*◌, ◌/◌, ◌%◌, ◌≤◌, ◌<◌}
use mathlib.Core.Path.{◌≡◌, sym, ap, ◌∙◌}
use mathlib.Core.List.{List, [], flatten}
use native.Mathlib.Nat.{mul_comm, mul-add, mul-suc, mul-le-mul_left, mul-mod_right, mul-div_right, le-div_iff_mul-le}
use native.Mathlib.Omega.{arith}
use lib.ListN.{length, get_or, take, drop, length-take, length-drop}
use lib.Seq.{ext_get_or, get_or-take, get_or-drop}
use Rattle.fields.specs.Bytes.{part}
use Rattle.fields.proofs.Laws.{part_length, part-part}
use Rattle.records.specs.Rules.{run_records}
use Rattle.records.proofs.Parts.{run-count, run-record}
use Rattle.writing.proofs.Runs.{run-joined}

module _ (size : ℕ) (some : 1 ≤ size) (bytes : List ℕ) (from to : ℕ) (low : from ≤ to) (high : to ≤ length bytes / size) where
  abbrev m : ℕ
  m = to - from

  pub bytes_low : size * from ≤ size * to
  bytes_low = mul-le-mul_left size low

  pub bytes-end : size * to ≤ length bytes
  bytes-end = rw mul_comm ((le-div_iff_mul-le some).0 high)

  pub bytes-many : size * to - size * from ≡ size * m
  bytes-many =
      let all : from + m ≡ to = omega arith in
      let parted : size * from + size * m ≡ size * to = sym (mul-add size from m) ∙ ap (λ (k : ℕ). size * k) all in
      omega arith

  abbrev few : List ℕ
  few = part bytes (size * from) (size * m)

  few-long : length few ≡ size * m
  few-long = part_length bytes (size * from) (size * m) (omega (arith, bytes_low, bytes-end, bytes-many))

  few-count : length few / size ≡ m
  few-count = ap (λ (k : ℕ). k / size) few-long ∙ mul-div_right m some

  same-record : (i : ℕ) → i < m → get_or (run_records size few) i [] ≡ get_or (take m (drop from (run_records size bytes))) i []
  same-record i h =
      let near : size * i + size ≤ size * m = rw (mul-suc size i) at (mul-le-mul_left size h) in
      let at : size * from + size * i ≡ size * (from + i) = sym (mul-add size from i) in
      run-record size few i (omega (arith, few-count))
      ∙ part-part bytes (size * from) (size * m) (size * i) size near
      ∙ ap (λ (k : ℕ). part bytes k size) at
      ∙ sym (get_or-take m (drop from (run_records size bytes)) i [] h ∙ get_or-drop from (run_records size bytes) i []
      ∙ run-record size bytes (from + i) (omega arith))

  same-records : run_records size few ≡ take m (drop from (run_records size bytes))
  same-records =
      let long : length (take m (drop from (run_records size bytes))) ≡ m = simp (length-take, length-drop) (omega (arith, run-count size bytes)) in
      let count = run-count size few ∙ few-count in
      ext_get_or [] (run_records size few) (take m (drop from (run_records size bytes))) (count ∙ sym long) (λ i h. same-record i (omega (arith, count)))

  -- as code takes them
  pub run-bytes : take (size * to - size * from) (drop (size * from) bytes) ≡ flatten (take m (drop from (run_records size bytes)))
  run-bytes =
      ap (λ (k : ℕ). take k (drop (size * from) bytes)) bytes-many
      ∙ sym (run-joined size few (ap (λ (k : ℕ). k % size) few-long ∙ mul-mod_right size m)) ∙ ap flatten same-records
