use Prim.Native.Nat.{ℕ, ◌+◌, ◌-◌, ◌/◌, ◌≤◌}
use mathlib.Core.List.{List}
use lib.ListN.{length}
use Rattle.header.specs.declared.edition.Edition.{Edition}
use Rattle.header.specs.declared.layout.Kind.{Kind}
use Rattle.header.specs.Layout.{kind_byte, record_size, capacity_of, blocks_for}
use Rattle.records.specs.Rules.{run_records}
use Rattle.buffers.proofs.Left.{Left}
use Rattle.writing.specs.Laid.{kind_blocks}
use Rattle.writing.proofs.KindSteps.{blocks_left}
use Rattle.writing.proofs.laying.put_kind.Given as goal

abbrev pub records_in : Edition → Kind → List ℕ → List (List ℕ)
records_in edition kind bytes = run_records (record_size edition kind) bytes

-- all blocks, by the number of records that the bytes hold
abbrev pub blocks : Edition → Kind → List ℕ → ℕ → List ℕ
blocks edition kind bytes place =
    kind_blocks (kind_byte kind) (capacity_of edition kind) (blocks_for (capacity_of edition kind) (length bytes / record_size edition kind)) place
    (records_in edition kind bytes)

abbrev pub invariant-loop-from : goal.invariant-loop-from
invariant-loop-from l =
    (l.from ≤ l.count) × ((l.b ≤ l.place + l.from)
    × Left l.initial.buffer l.at (blocks l.edition l.kind l.records l.place) l.buffer l.end
    (blocks_left l.edition l.kind (records_in l.edition l.kind l.records) l.from l.b))

abbrev pub decreases-loop-from : goal.decreases-loop-from
decreases-loop-from l = l.count - l.from
