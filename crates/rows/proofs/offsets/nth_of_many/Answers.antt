use mathlib.Core.Path.{refl, sym, ◌∙◌}
use native.Mathlib.Omega.{arith}
use Rattle.image.proofs.Accepted.{accepted-counted}
use Rattle.access.specs.Rights.{rights_of}
use Rattle.maps.proofs.Bits.{map-at-most}
use Rattle.rows.specs.Run.{run_rows}
use Rattle.rows.proofs.CompleteTags.{holding-start, row-held}
use Rattle.rows.proofs.MadeMap.{made_inside, made-mapping, made-same, offset-same}
use Rattle.rows.proofs.offsets.nth_of_many.Goals as goal

pub put_map-end-requires : goal.put_map-end-requires
put_map-end-requires c =
    let counted = accepted-counted _ c.requires.usable.accepted in
    (counted, map-at-most _ counted)

pub slice_bounds-fill-end : goal.slice_bounds-fill-end
slice_bounds-fill-end c =
    omega (arith, made_inside c.args.image.now (rights_of c.args.view) c.requires.usable.accepted _ _ _ refl c.put_map-end.ensures)

pub fill-requires : goal.fill-requires
fill-requires c =
    record { mapping = made-mapping _ _ c.requires.usable.accepted _ _ _ refl c.put_map-end.ensures; holding = holding-start _ _ }

pub returns : goal.returns
returns c =
    let a = c.args in
    let complete = c.fill.ensures c.if-not-fill.false in
    let same = made-same _ _ c.requires.usable.accepted _ _ _ refl c.put_map-end.ensures _ (sym c.requires.view_value) in
    c.nth_kept-2.ensures ∙ offset-same _ _ (λ row. row-held _ _ _ complete row ∙ same row) a.n (run_rows a.run.now a.width)
