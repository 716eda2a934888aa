use Rattle.std.specs.Prelude.{IsSome}
use Rattle.hierarchy.specs.Below.{Tabled}
use Rattle.image.specs.Check.{IsAccepted}
use Rattle.lines.specs.Parts.{steps_after}
use Rattle.report.proofs.write_output.Given as goal

abbrev pub invariant-loop-part : goal.invariant-loop-part
invariant-loop-part g l = IsSome l.part.next → IsAccepted l.image × Tabled l.image l.table

abbrev pub decreases-loop-part : goal.decreases-loop-part
decreases-loop-part g l = steps_after l.image l.part
