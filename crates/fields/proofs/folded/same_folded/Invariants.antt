use Prim.Native.Nat.{◌*◌}
use mathlib.Core.Path.{◌≡◌}
use mathlib.Core.Bool.{true}
use lib.ListN.{length}
use Rattle.fields.specs.Scan.{everywhere}
use Rattle.fields.specs.Folded.{same_folded_at}
use Rattle.fields.proofs.folded.same_folded.Given as goal

-- the bytes before 16 j are the same
abbrev pub invariant-loop-j : goal.invariant-loop-j
invariant-loop-j l = (length l.a ≡ length l.b) × (everywhere (same_folded_at l.a l.b) (16 * l.j) 0 ≡ true)
