use Prim.Native.Nat.{ℕ, ◌+◌, ◌-◌, ◌*◌, ◌/◌, ◌≤◌}
use mathlib.Core.Path.{◌≡◌}
use mathlib.Core.List.{List, ◌++◌, flatten}
use native.Mathlib.Omega.{arith}
use lib.ListN.{length, take, drop}
use Rattle.header.specs.declared.edition.Edition.{Edition}
use Rattle.header.specs.declared.layout.Kind.{Kind}
use Rattle.header.specs.Layout.{kind_byte, record_size, capacity_of}
use Rattle.header.proofs.Editions.{kind-roomy}
use Rattle.records.specs.Rules.{run_records}
use Rattle.writing.specs.Laid.{head_of, sealed, block_of}
use Rattle.records.proofs.BlockRuns.{size-some}
use Rattle.writing.proofs.Runs.{run-sized}
use Rattle.records.proofs.Parts as parts
use Rattle.writing.proofs.RunParts.{bytes_low, bytes-end, run-bytes}
use Rattle.writing.proofs.KindSteps.{run_of, run_fits, run-count, written_same}
use Rattle.writing.proofs.laying.put_run.Goals as goal

-- what code takes are the records from `from` up to `to`
module _ (edition : Edition) (kind : Kind) (bytes : List ℕ) (from to size : ℕ) (told : size ≡ record_size edition kind) (low : from ≤ to)
    (high : to ≤ length bytes / record_size edition kind) (few : to ≤ from + capacity_of edition kind) where
  abbrev records : List (List ℕ)
  records = run_records (record_size edition kind) bytes

  upto : to ≤ length records
  upto = omega (arith, parts.run-count (record_size edition kind) bytes)

  payload-is : take (size * to - size * from) (drop (size * from) bytes) ≡ flatten (run_of edition kind records from to)
  payload-is = rw told (run-bytes (record_size edition kind) (size-some edition kind) bytes from to low high)

  payload-fits : length (take (size * to - size * from) (drop (size * from) bytes)) ≤ 506
  payload-fits =
      rw payload-is
      (run_fits edition kind records (run-sized (record_size edition kind) (size-some edition kind) bytes) from to low upto few)

  block-is : (place byte : ℕ) → byte ≡ kind_byte kind
      → sealed (head_of byte (to - from) place ++ take (size * to - size * from) (drop (size * from) bytes))
      ≡ block_of (kind_byte kind) place (run_of edition kind records from to)
  unfolding block_of
  block-is place byte e = rw (payload-is, e, run-count edition kind records from to low upto)

pub overflow_cast-count : goal.overflow_cast-count
overflow_cast-count c =
    omega (arith, c.requires.from_le_to.1.1, (kind-roomy c.args.edition c.args.kind 0 0).few)

pub overflow_mul-first : goal.overflow_mul-first
overflow_mul-first c =
    let a = c.args in
    let s = record_size a.edition a.kind in
    let some = size-some a.edition a.kind in
    let p = c.requires.from_le_to in
    rw c.size-size.ensures (omega (arith, bytes_low s some a.records.now a.from a.to p.0 p.1.0, bytes-end s some a.records.now a.from a.to p.0 p.1.0))

pub overflow_mul-last : goal.overflow_mul-last
overflow_mul-last c =
    let a = c.args in
    let s = record_size a.edition a.kind in
    let some = size-some a.edition a.kind in
    let p = c.requires.from_le_to in
    rw c.size-size.ensures (omega (arith, bytes-end s some a.records.now a.from a.to p.0 p.1.0))

pub slice_bounds-put_block-count : goal.slice_bounds-put_block-count
slice_bounds-put_block-count c =
    let a = c.args in
    let p = c.requires.from_le_to in
    rw c.size-size.ensures (bytes_low (record_size a.edition a.kind) (size-some a.edition a.kind) a.records.now a.from a.to p.0 p.1.0)

pub slice_bounds-put_block-start : goal.slice_bounds-put_block-start
slice_bounds-put_block-start c =
    let a = c.args in
    let p = c.requires.from_le_to in
    rw c.size-size.ensures (bytes_low (record_size a.edition a.kind) (size-some a.edition a.kind) a.records.now a.from a.to p.0 p.1.0)

pub slice_bounds-put_block-end : goal.slice_bounds-put_block-end
slice_bounds-put_block-end c =
    let a = c.args in
    let p = c.requires.from_le_to in
    rw c.size-size.ensures (bytes-end (record_size a.edition a.kind) (size-some a.edition a.kind) a.records.now a.from a.to p.0 p.1.0)

pub put_block-requires : goal.put_block-requires
put_block-requires c =
    let a = c.args in
    let p = c.requires.from_le_to in
    let fits = payload-fits a.edition a.kind a.records.now a.from a.to _ c.size-size.ensures p.0 p.1.0 p.1.1 in
    (c.requires.place_bound.0, (fits, c.requires.place_bound.1))

pub returns : goal.returns
returns c =
    let a = c.args in
    let p = c.requires.from_le_to in
    written_same
    (block-is a.edition a.kind a.records.now a.from a.to _ c.size-size.ensures p.0 p.1.0 p.1.1 a.place _ c.kind_byte.ensures)
    c.put_block.ensures
