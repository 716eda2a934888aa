use mathlib.Core.Path.{◌≡◌}
use Rattle.fields.specs.Scan.{everywhere}
use Rattle.labels.specs.Tests.{passes_at}
use Rattle.labels.proofs.scan.part_passes.Given as goal

abbrev pub invariant-loop-j : goal.invariant-loop-j
invariant-loop-j g l = l.all ≡ everywhere (passes_at (g.T.ByteTest.test l.test) l.text) l.j l.i
