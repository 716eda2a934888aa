use Prim.Native.Nat.{◌+◌, ◌-◌, ◌*◌}
use mathlib.Core.Path.{◌≡◌}
use lib.ListN.{length}
use Rattle.fields.specs.Scan.{first_bad}
use Rattle.labels.specs.Tests.{passes_at}
use Rattle.labels.proofs.scan.first_stop.Given as goal

abbrev pub invariant-loop-p : goal.invariant-loop-p
invariant-loop-p g l =
    let rule = passes_at (g.T.ByteTest.test l.test) l.text in
    let i = l.at + 16 * l.p in
    first_bad rule (length l.text - i) i ≡ first_bad rule (length l.text - l.at) l.at
