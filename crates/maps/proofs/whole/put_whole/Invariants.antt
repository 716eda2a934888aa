use Prim.Native.Nat.{◌-◌, ◌≤◌, ℕ, ◌+◌, ◌/◌}
use Rattle.buffers.proofs.Left.{Left}
use Rattle.maps.specs.Whole.{whole_map, whole_byte}
use mathlib.Core.List.{List}
use Rattle.fields.specs.Scan.{list_from}
use Rattle.maps.proofs.whole.put_whole.Given as goal

-- what is left to write from byte k on
abbrev pub rest : ℕ → ℕ → List ℕ
rest n k = list_from (whole_byte n) ((n + 7) / 8 - k) k

abbrev pub invariant-loop-k : goal.invariant-loop-k
invariant-loop-k l = (l.k ≤ l.full) × Left l.initial.buffer 0 (whole_map l.labels) l.buffer l.k (rest l.labels l.k)
