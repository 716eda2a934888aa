use mathlib.Core.Path.{◌≡◌}
use lib.ListN.{drop}
use Rattle.fields.specs.Names.{name_before}
use Rattle.fields.proofs.names.name_before.Given as goal

abbrev pub invariant-loop-i : goal.invariant-loop-i
invariant-loop-i l = name_before (drop l.i l.a) (drop l.i l.b) ≡ name_before l.a l.b
