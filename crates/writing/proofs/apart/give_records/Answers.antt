use Prim.Native.Nat.{ℕ, ◌*◌, ◌≤◌, ◌<◌}
use mathlib.Core.Path.{◌≡◌, sym, ap, ◌∙◌}
use mathlib.Core.List.{List, flatten}
use native.Mathlib.Nat.{mul-le-mul_right}
use native.Mathlib.Omega.{arith}
use lib.ListN.{length}
use Rattle.header.specs.declared.edition.Edition.{Edition}
use Rattle.header.specs.declared.edition.Edition.TheVariants.{One, Two}
use Rattle.header.specs.declared.layout.Kind.{Kind}
use Rattle.header.specs.declared.layout.Kind.TheVariants.{Component, Label, User}
use Rattle.header.specs.declared.layout.Shape.{Shape}
use Rattle.header.specs.Layout.{edition_of, record_size, count_of, records_of, Fitted, Shaped}
use Rattle.header.proofs.Inside.{header-inside, records-count, record_of, record-length}
use Rattle.buffers.proofs.FrontWritten.{answer-room, answer-done}
use Rattle.writing.proofs.Packed.{flatten-length}
use Rattle.writing.proofs.apart.give_records.Goals as goal

-- the size of a record times their number is the length of all
long : (im : List ℕ) (kind : Kind) (shape : Shape) → Fitted im → Shaped im kind shape → shape.size * shape.count ≡ length (flatten (records_of im kind))
long im kind shape fit s =
    ap (λ (x : Shape). x.size * x.count) s.is ∙ ap (λ (n : ℕ). record_size (edition_of im) kind * n) (sym (records-count im kind))
    ∙ sym (flatten-length (record_size (edition_of im) kind) (records_of im kind)
    (λ i h.
    let here : i < count_of im kind = omega (arith, records-count im kind) in
    ap length (record_of im kind i here) ∙ record-length im fit kind i here))

size-most : (edition : Edition) (kind : Kind) → record_size edition kind ≤ 200
size-most One Component = omega arith
size-most One Label = omega arith
size-most One User = omega arith
size-most Two Component = omega arith
size-most Two Label = omega arith
size-most Two User = omega arith

pub shape_of-shape-requires : goal.shape_of-shape-requires
shape_of-shape-requires c = header-inside _ c.requires.fitted

pub overflow_mul-shape : goal.overflow_mul-shape
overflow_mul-shape c =
    let a = c.args in
    let shape = c.shape_of-shape.result in
    let s = c.shape_of-shape.ensures in
    let size : shape.size ≡ record_size (edition_of a.image.now) a.kind = ap (λ (x : Shape). x.size) s.is in
    let few : shape.size ≤ 200 = omega (arith, size-most (edition_of a.image.now) a.kind) in
    omega (arith, mul-le-mul_right shape.count few, s.few)

pub returns-then-buffer-shape : goal.returns-then-buffer-shape
returns-then-buffer-shape c =
    answer-room _ (flatten (records_of c.args.image.now c.args.kind)) _
    (long c.args.image.now c.args.kind _ c.requires.fitted c.shape_of-shape.ensures) c.if-buffer-shape.true

pub put_records-requires : goal.put_records-requires
put_records-requires c =
    let e = long c.args.image.now c.args.kind _ c.requires.fitted c.shape_of-shape.ensures in
    (c.requires, omega (arith, e, c.if-buffer-shape.false))

pub returns : goal.returns
returns c =
    let e = long c.args.image.now c.args.kind _ c.requires.fitted c.shape_of-shape.ensures in
    answer-done _ _ _ e c.if-buffer-shape.false c.put_records.ensures
