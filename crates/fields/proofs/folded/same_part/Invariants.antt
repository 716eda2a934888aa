use mathlib.Core.Path.{◌≡◌}
use Rattle.fields.specs.Scan.{everywhere}
use Rattle.fields.specs.Folded.{same_folded_at}
use Rattle.fields.proofs.folded.same_part.Given as goal

abbrev pub invariant-loop-j : goal.invariant-loop-j
invariant-loop-j l = l.same ≡ everywhere (same_folded_at l.a l.b) l.j l.i
