use Prim.Native.Nat.{ℕ}
use mathlib.Core.Path.{◌≡◌, ap, ◌∙◌}
use mathlib.Core.List.{List}
use native.Mathlib.Numerals.{add-one}
use native.Mathlib.Omega.{arith}
use lib.ListN.{get_or, set}
use Rattle.buffers.proofs.Stored.{stored, stored-whole}
use Rattle.buffers.proofs.parts.copy_bytes.Goals as goal

pub loop-k-preserved : goal.loop-k-preserved
loop-k-preserved g c =
    let k = c.loop-k.k in
    rw add-one (ap (λ (l : List ℕ). set l k (get_or c.args.from.now k 0)) c.loop-k.invariant)

pub returns : goal.returns
returns g c =
    let all : c.loop-k.k ≡ g.row.N = omega arith in
    c.loop-k.invariant ∙ ap (stored c.args.from.now c.args.to.now) all ∙ stored-whole c.args.from.now c.args.to.now g.row.N c.requires.0 c.requires.1
