use Prim.Native.Nat.{◌-◌}
use mathlib.Core.Path.{◌≡◌}
use lib.ListN.{length}
use Rattle.fields.specs.Scan.{first_bad}
use Rattle.labels.specs.Tests.{passes_at}
use Rattle.labels.proofs.scan.rest_stop.Given as goal

abbrev pub invariant-loop-i : goal.invariant-loop-i
invariant-loop-i g l =
    let rule = passes_at (g.T.ByteTest.test l.test) l.text in
    first_bad rule (length l.text - l.i) l.i ≡ first_bad rule (length l.text - l.at) l.at
