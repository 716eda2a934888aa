use mathlib.Core.Path.{◌≡◌}
use lib.ListN.{drop}
use Rattle.fields.specs.Names.{same_bytes, folded_name}
use Rattle.fields.proofs.folded.same_short.Given as goal

abbrev pub invariant-loop-i : goal.invariant-loop-i
invariant-loop-i l = same_bytes (drop l.i l.a) (drop l.i (folded_name l.b)) ≡ same_bytes l.a (folded_name l.b)
