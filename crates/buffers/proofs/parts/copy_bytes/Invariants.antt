use mathlib.Core.Path.{◌≡◌}
use Rattle.buffers.proofs.Stored.{stored}
use Rattle.buffers.proofs.parts.copy_bytes.Given as goal

abbrev pub invariant-loop-k : goal.invariant-loop-k
invariant-loop-k g l = l.to ≡ stored l.from l.initial.to l.k
