use mathlib.Core.Path.{refl}
use native.Mathlib.Omega.{arith}
use Rattle.image.proofs.Accepted.{accepted-counted}
use Rattle.access.specs.Rights.{rights_of}
use Rattle.maps.proofs.Bits.{map-at-most}
use Rattle.rows.proofs.MadeMap.{made_inside, made-right}
use Rattle.rows.proofs.reading.read_many.Goals as goal

pub put_map-end-requires : goal.put_map-end-requires
put_map-end-requires c =
    let counted = accepted-counted _ c.requires.accepted in
    (counted, map-at-most _ counted)

pub slice_bounds-read_judged-end : goal.slice_bounds-read_judged-end
slice_bounds-read_judged-end c =
    omega (arith, made_inside c.args.image.now (rights_of c.args.view) c.requires.accepted _ _ _ refl c.put_map-end.ensures)

pub read_judged-requires : goal.read_judged-requires
read_judged-requires c =
    (c.requires, made-right _ _ c.requires.accepted _ _ _ refl c.put_map-end.ensures)

pub returns : goal.returns
returns c = c.read_judged.ensures
