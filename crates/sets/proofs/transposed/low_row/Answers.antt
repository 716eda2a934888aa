use Prim.Native.Nat.{ℕ, ◌*◌, ◌%◌, ◌^◌}
use mathlib.Core.Path.{ap}
use lib.Bits.{bit_xor}
use Rattle.sets.specs.Transposed.{low_row}
use Rattle.sets.proofs.transposed.low_row.Goals as goal

pub returns : goal.returns
unfolding low_row
returns c =
    let a = c.args in
    ap (λ (x : ℕ). bit_xor a.a (x * 2 ^ a.s % 2 ^ 64)) c.mixed.ensures
