use Prim.Native.Nat.{◌+◌, ◌-◌, ◌≤◌}
use Rattle.buffers.proofs.Left.{Left}
use Rattle.writing.proofs.KindSteps.{blocks_left}
use Rattle.moves.specs.Moved.{edition_after, new_records}
use Rattle.moves.specs.Parts.{new_kind}
use Rattle.moves.proofs.packing.move_kind.Given as goal

abbrev pub invariant-loop-from : goal.invariant-loop-from
invariant-loop-from g l =
    (l.from ≤ l.count) × ((l.b ≤ l.place + l.from)
    × Left l.initial.buffer l.at (new_kind g.S.Step.which l.image l.kind l.place) l.buffer l.end
    (blocks_left (edition_after g.S.Step.which) l.kind (new_records g.S.Step.which l.image l.kind) l.from l.b))

abbrev pub decreases-loop-from : goal.decreases-loop-from
decreases-loop-from g l = l.count - l.from
