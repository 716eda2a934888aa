-- `sets::word::has` meets its contract: the last bit of the shifted word is the place, and a word is below 2 ^ 64.
-- Assumes nothing.
use borrow.Author.Rules.{rules}
use mathlib.Core.Path.{sym, ap}
use Prim.Native.Nat.{ℕ, ◌/◌, ◌^◌}
use lib.Bits.{and_mask}
use lib.Dec.{eqb}
use Rattle.sets.specs.Sets.{has}
use Rattle.sets.proofs.Bounds.{below-lacks}
use Rattle.sets.proofs.word.has.Goals as goal

pub returns-then-p-lt64 : goal.returns-then-p-lt64
unfolding has
returns-then-p-lt64 c =
    let a = c.args in
    ap (λ (x : ℕ). eqb x 1) (and_mask (a.s / 2 ^ a.p) 1)

pub returns-else-p-lt64 : goal.returns-else-p-lt64
returns-else-p-lt64 c =
    let a = c.args in
    sym (below-lacks a.s 64 (search rules) a.p (search rules))
