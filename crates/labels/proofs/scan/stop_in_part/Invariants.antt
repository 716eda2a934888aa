use Prim.Native.Nat.{◌+◌, ◌-◌, ◌<◌}
use mathlib.Core.Path.{◌≡◌}
use Rattle.fields.specs.Scan.{first_bad}
use Rattle.labels.specs.Tests.{passes_at}
use Rattle.labels.proofs.scan.stop_in_part.Given as goal

abbrev pub invariant-loop-test : goal.invariant-loop-test
invariant-loop-test g l =
    let rule = passes_at (g.T.ByteTest.test l.test) l.text in
    (l.k < l.i + 16) × (first_bad rule (l.i + 16 - l.k) l.k ≡ first_bad rule 16 l.i)

abbrev pub decreases-loop-test : goal.decreases-loop-test
decreases-loop-test g l = l.i + 16 - l.k
