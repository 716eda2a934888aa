use Prim.Native.Nat.{◌+◌}
use mathlib.Core.Path.{◌≡◌}
use native.Mathlib.Omega.{arith}
use Rattle.fields.specs.Bytes.{number2, number4}
use Rattle.fields.proofs.numbers.number4.Goals as goal

pub returns : goal.returns
unfolding number2 number4
returns c =
    let third : c.args.k + 2 + 1 ≡ c.args.k + 3 = omega arith in
    rw third (omega arith)
