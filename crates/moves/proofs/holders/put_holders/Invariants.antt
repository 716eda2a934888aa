use Prim.Native.Nat.{◌-◌}
use Rattle.fields.specs.Scan.{places_where}
use Rattle.buffers.proofs.Left.{Left}
use Rattle.moves.specs.Holders.{is_holder, holders}
use Rattle.moves.proofs.holders.put_holders.Given as goal

abbrev pub invariant-loop-u : goal.invariant-loop-u
invariant-loop-u l =
    Left l.initial.buffer 0 (holders l.image) l.buffer l.end (places_where (is_holder l.image) (l.count - l.u) l.u)
