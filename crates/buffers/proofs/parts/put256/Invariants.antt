use Prim.Native.Nat.{◌+◌, ◌*◌}
use mathlib.Core.Path.{◌≡◌}
use lib.ListN.{length, take, drop}
use Rattle.buffers.specs.Pasting.{pasted}
use Rattle.buffers.proofs.parts.put256.Given as goal

-- the first k parts of 32 bytes are written
abbrev pub invariant-loop-k : goal.invariant-loop-k
invariant-loop-k l =
    (length l.buffer ≡ length l.initial.buffer) × (l.buffer ≡ pasted l.initial.buffer (l.at + l.i) (take (32 * l.k) (drop l.i l.text)))
