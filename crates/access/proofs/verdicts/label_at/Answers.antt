use native.Mathlib.Omega.{arith}
use Rattle.header.proofs.Inside.{header-inside}
use Rattle.header.specs.Layout.{edition_of}
use Rattle.labels.specs.Label.{label_at}
use Rattle.records.proofs.Rooms.{label-room}
use Rattle.access.proofs.verdicts.label_at.Goals as goal

pub edition_of-requires : goal.edition_of-requires
edition_of-requires c =
    header-inside _ c.requires.0.fitted

pub group_set-requires : goal.group_set-requires
group_set-requires c =
    rw c.edition_of.ensures (omega (arith, c.record_part-rec.ensures.1.0, label-room (edition_of c.args.image.now)))

pub returns : goal.returns
unfolding label_at
returns c =
    rw (← c.record_part-rec.ensures.0, ← c.edition_of.ensures, c.group_set.ensures, c.number8.ensures)
