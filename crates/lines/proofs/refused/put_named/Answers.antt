use Rattle.lines.proofs.RefusalText.{room_word, room-number, written-named}
use Rattle.lines.proofs.refused.put_named.Goals as goal

pub put-named-requires : goal.put-named-requires
put-named-requires c =
    let a = c.args in
    room_word a.word.now a.n a.buffer.now a.at c.requires

pub put_number-requires : goal.put_number-requires
put_number-requires c =
    room-number _ _ _ _ c.requires c.put-named.ensures

pub returns : goal.returns
returns c =
    written-named _ _ _ _ c.requires c.put-named.ensures c.put_number.ensures
