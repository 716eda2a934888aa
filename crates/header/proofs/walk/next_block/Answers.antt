use mathlib.Core.Path.{sym}
use native.Mathlib.Nat.{sub-zero}
use Rattle.header.proofs.Inside.{block-after, slot-after}
use Rattle.header.proofs.walk.next_block.Goals as goal

pub returns : goal.returns
returns c =
    let shape = c.args.shape in
    let j = c.args.j in
    let stand = c.requires.1.0 in
    record {
      begins = rw (stand.begins, stand.more) (sym (block-after shape c.requires.0 j));
      more = rw (stand.more, slot-after shape c.requires.0 j, sub-zero);
    }
