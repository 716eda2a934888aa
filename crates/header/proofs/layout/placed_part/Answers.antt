use mathlib.Core.Path.{ap}
use native.Mathlib.Nat.{add-sub_cancel_left}
use native.Mathlib.Omega.{arith}
use lib.ListN.{length-take, length-drop}
use Rattle.header.specs.declared.layout.Shape.{Shape}
use Rattle.header.specs.Layout.{edition_of, record_at}
use Rattle.header.proofs.Editions.{size-least}
use Rattle.header.proofs.Inside.{record-inside, offset-shaped}
use Rattle.header.proofs.layout.placed_part.Goals as goal

pub overflow_add-result : goal.overflow_add-result
overflow_add-result c =
    let p = c.requires in
    let e = offset-shaped _ _ _ _ _ p.1.0 p.1.1.1 in
    let size = ap (λ (s : Shape). s.size) p.1.0.is in
    omega (arith, record-inside _ p.0 c.args.kind _ p.1.1.0)

pub slice_bounds-result-end : goal.slice_bounds-result-end
slice_bounds-result-end c =
    let p = c.requires in
    let e = offset-shaped _ _ _ _ _ p.1.0 p.1.1.1 in
    let size = ap (λ (s : Shape). s.size) p.1.0.is in
    omega (arith, record-inside _ p.0 c.args.kind _ p.1.1.0)

pub returns : goal.returns
unfolding record_at
returns c =
    let p = c.requires in
    let e = offset-shaped _ _ _ _ _ p.1.0 p.1.1.1 in
    let size = ap (λ (s : Shape). s.size) p.1.0.is in
    let inside = record-inside _ p.0 c.args.kind _ p.1.1.0 in
    let least = size-least (edition_of c.args.image.now) c.args.kind in (
      rw (e, size, add-sub_cancel_left),
      (simp (length-take, length-drop) (omega arith), simp (length-take, length-drop) (omega arith)),
    )
