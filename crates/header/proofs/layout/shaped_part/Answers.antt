use native.Mathlib.Omega.{arith}
use Rattle.header.proofs.Inside.{record-inside}
use Rattle.header.proofs.layout.shaped_part.Goals as goal

pub record_offset-requires : goal.record_offset-requires
record_offset-requires c =
    let p = c.requires in
    let s = p.1.0 in
    (s.roomy, rw s.is (omega (arith, record-inside _ p.0 c.args.kind _ p.1.1)))
