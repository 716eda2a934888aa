-- `sets::word::all_below` meets its contract: below 64 no bit is shifted out, and from 64 on `n` is 64.
-- Assumes nothing.
use borrow.Author.Rules.{rules}
use mathlib.Core.Path.{◌≡◌, ap}
use Prim.Native.Nat.{ℕ, ◌-◌}
use native.Mathlib.Omega.{arith}
use lib.Pow.{pow_pos}
use Rattle.sets.specs.Sets.{all_below}
use Rattle.sets.proofs.Bounds.{one_shifted}
use Rattle.sets.proofs.word.all_below.Goals as goal

pub overflow_sub-result : goal.overflow_sub-result
overflow_sub-result c =
    let n = c.args.n in
    omega (arith, one_shifted n 64 (search rules), pow_pos n)

pub returns-then-n-lt64 : goal.returns-then-n-lt64
unfolding all_below
returns-then-n-lt64 c = ap (λ (x : ℕ). x - 1) (one_shifted c.args.n 64 (search rules))

pub returns-else-n-lt64 : goal.returns-else-n-lt64
unfolding all_below
returns-else-n-lt64 c =
    let e : 64 ≡ c.args.n = omega arith in
    ap all_below e
