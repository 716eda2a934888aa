use mathlib.Core.Path.{◌≡◌}
use mathlib.Core.List.{[], ◌∷◌, ◌++◌}
use native.Mathlib.Omega.{arith}
use lib.ListN.{length, drop, length-append}
use lib.Seq.{append_snoc}
use Rattle.fields.specs.Bytes.{part}
use Rattle.fields.proofs.Laws.{part_length, rest-taken}
use Rattle.moves.specs.Moved.{clear_user}
use Rattle.writing.proofs.KindSteps.{then-written, written_same}
use Rattle.moves.proofs.clearing.put_cleared_user.Goals as goal

pub returns : goal.returns
unfolding clear_user
returns c =
    let rec = c.args.rec.now in
    let kept : length (part rec 0 31) ≡ 31 = part_length rec 0 31 (omega (arith, c.requires.0)) in
    let first = then-written 31 97 kept c.requires.1 c.put-name.ensures c.put-privileges.ensures in
    let upto : length (part rec 0 31 ++ c.without_compaccess.result ∷ []) ≡ 32 =
    omega (arith, length-append (part rec 0 31) (c.without_compaccess.result ∷ [])) in
    let whole = then-written 32 96 upto c.requires.1 first c.put.ensures in
    let joined = append_snoc (part rec 0 31) c.without_compaccess.result (drop 32 rec) in
    rw c.without_compaccess.ensures at (written_same joined (rw (rest-taken rec 32) at whole))
