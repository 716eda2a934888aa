use Prim.Native.Nat.{ℕ, suc, ◌+◌, ◌-◌, ◌*◌, ◌≤◌, ◌<◌}
use mathlib.Core.Path.{◌≡◌, sym, ap, ◌∙◌}
use mathlib.Core.List.{List}
use native.Mathlib.Nat.{mul-suc, mul-le-mul_left}
use native.Mathlib.Omega.{arith}
use lib.ListN.{length, take, drop}
use Rattle.fields.specs.Bytes.{part}
use Rattle.fields.proofs.Laws.{part_length, part-part, part-taken}
use Rattle.header.specs.declared.layout.Kind.{Kind}
use Rattle.header.specs.declared.layout.Shape.{Shape}
use Rattle.header.specs.Layout.{edition_of, record_size, count_of, shape_of, record_offset, record_at, records_of, Fitted, Shaped, OneBlock}
use Rattle.header.proofs.Inside.{record-inside, record_of, one_block}
use Rattle.records.specs.Kinds.{RunOf}
use Rattle.records.specs.Rules.{record_in, run_record}
use Rattle.writing.proofs.apart.run_in_block.Goals as goal

module _ (im : List ℕ) (kind : Kind) (first from to : ℕ) (fit : Fitted im) (few : to ≤ count_of im kind) (some : from < to)
    (one : OneBlock im kind first from to) where
  abbrev size : ℕ
  size = record_size (edition_of im) kind

  begins : (q : ℕ) → q < to - from → first + size * q ≡ record_offset (shape_of im kind) (from + q)
  begins q h =
      let e : from + q - from ≡ q = omega arith in
      ap (λ (k : ℕ). first + size * k) (sym e) ∙ one_block im kind first from to (from + q) one (omega arith) (omega arith)

  block_inside : first + size * (to - from) ≤ length im
  block_inside =
      let last : ℕ = to - from - 1 in
      let whole : to - from ≡ suc last = omega arith in
      let long : size * (to - from) ≡ size * last + size = ap (λ (k : ℕ). size * k) whole ∙ mul-suc size last in
      omega (arith, begins last (omega arith), record-inside im fit kind (from + last) (omega arith))

  same : (q : ℕ) → q < to - from → run_record size (part im first (size * (to - from))) q ≡ record_in (records_of im kind) (from + q)
  unfolding record_at
  same q h =
      let fits : size * q + size ≤ size * (to - from) = rw (mul-suc size q) at (mul-le-mul_left size h) in
      part-part im first (size * (to - from)) (size * q) size fits ∙ ap (λ (k : ℕ). part im k size) (begins q h)
      ∙ sym (record_of im kind (from + q) (omega arith))

  block_run : RunOf im kind from to (part im first (size * (to - from)))
  block_run = record { long = part_length im first (size * (to - from)) block_inside; same = same }

  -- by the shape that code has
  module _ (shape : Shape) (s : Shaped im kind shape) where
    shaped-inside : first + shape.size * (to - from) ≤ length im
    shaped-inside = rw s.is block_inside

    shaped-run : RunOf im kind from to (take (first + shape.size * (to - from) - first) (drop first im))
    shaped-run = rw (part-taken im first (shape.size * (to - from)), s.is) block_run

-- the last of them ends in the image
end_inside : (im : List ℕ) (kind : Kind) (shape : Shape) (first from to : ℕ) → Fitted im × Shaped im kind shape
    → (to ≤ count_of im kind) × ((from < to) × OneBlock im kind first from to) → first + shape.size * (to - from) ≤ length im
end_inside im kind shape first from to f p = shaped-inside im kind first from to f.0 p.0 p.1.0 p.1.1 shape f.1

pub overflow_mul-end : goal.overflow_mul-end
overflow_mul-end c = omega (arith, end_inside _ _ _ _ _ _ c.requires.fitted c.requires.to_bound)

pub overflow_add-end : goal.overflow_add-end
overflow_add-end c = omega (arith, end_inside _ _ _ _ _ _ c.requires.fitted c.requires.to_bound)

pub slice_bounds-result-end : goal.slice_bounds-result-end
slice_bounds-result-end c = omega (arith, end_inside _ _ _ _ _ _ c.requires.fitted c.requires.to_bound)

pub returns : goal.returns
returns c =
    let p = c.requires.to_bound in
    shaped-run _ _ _ _ _ c.requires.fitted.0 p.0 p.1.0 p.1.1 _ c.requires.fitted.1
