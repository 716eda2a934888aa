use Prim.Native.Nat.{◌*◌}
use Rattle.fields.proofs.Words.{SameUpto}
use Rattle.fields.proofs.same.same_words.Given as goal

abbrev pub invariant-loop-j : goal.invariant-loop-j
invariant-loop-j l = SameUpto l.a l.b l.last (8 * l.j)
