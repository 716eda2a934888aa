-- `sets::word::all_below_from` meets its contract. Assumes nothing.
use Prim.Native.Nat.{◌-◌, min}
use mathlib.Core.Path.{◌≡◌}
use native.Mathlib.Omega.{arith}
use Rattle.sets.specs.Sets.{all_below}
use Rattle.sets.proofs.word.all_below_from.Goals as goal

pub returns-then-n-from : goal.returns-then-n-from
unfolding all_below
returns-then-n-from c =
    let none : min 64 (c.args.n - c.args.from) ≡ 0 = omega arith in
    rw none
