use Prim.Native.Nat.{◌*◌}
use mathlib.Core.Path.{◌≡◌}
use lib.ListN.{drop}
use Rattle.fields.specs.Bytes.{all_zero}
use Rattle.fields.proofs.numbers.all_zero.Given as goal

abbrev pub invariant-loop-j : goal.invariant-loop-j
invariant-loop-j l = all_zero (drop (8 * l.j) l.s) ≡ all_zero l.s
