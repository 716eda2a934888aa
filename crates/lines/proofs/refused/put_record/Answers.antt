use Rattle.lines.proofs.RefusalText.{room-block, room-slot, record-told}
use Rattle.lines.proofs.refused.put_record.Goals as goal

pub put_named-told-requires : goal.put_named-told-requires
put_named-told-requires c =
    room-block _ _ c.ranges.block.fits c.ranges.slot.fits c.args.buffer.now _ c.requires

pub put_named-requires : goal.put_named-requires
put_named-requires c =
    room-slot _ _ c.ranges.block.fits c.ranges.slot.fits _ _ c.requires c.put_named-told.ensures

pub returns : goal.returns
returns c =
    record-told _ _ c.ranges.block.fits c.ranges.slot.fits _ _ c.requires c.put_named-told.ensures c.put_named.ensures
