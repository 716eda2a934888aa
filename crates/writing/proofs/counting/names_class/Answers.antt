use Prim.Native.Nat.{ℕ, ◌*◌}
use mathlib.Core.Path.{sym, ap, ◌∙◌}
use mathlib.Core.List.{List}
use native.Mathlib.Nat.{add-zero}
use native.Mathlib.Omega.{arith}
use lib.Dec.{eqb}
use Rattle.fields.specs.Bytes.{byte_at}
use Rattle.fields.proofs.Laws.{part-byte}
use Rattle.records.proofs.Parts.{run-record}
use Rattle.writing.proofs.counting.names_class.Goals as goal

pub returns : goal.returns
returns c =
    let bytes = c.args.components.now in
    let i = c.args.i in
    let first = part-byte bytes (40 * i) 40 0 (omega arith) ∙ ap (byte_at bytes) (add-zero (40 * i)) in
    let class = ap (λ (rec : List ℕ). byte_at rec 0) (run-record 40 bytes i c.requires) ∙ first in
    ap (λ (x : ℕ). eqb x c.args.class) (sym class)
