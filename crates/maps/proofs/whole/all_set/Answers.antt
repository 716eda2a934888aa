use Rattle.maps.proofs.EveryLabel.{full_start, full-turn, full-end}
use Rattle.maps.proofs.whole.all_set.Goals as goal

pub loop-byte-init : goal.loop-byte-init
loop-byte-init c = full_start _

pub loop-byte-preserved : goal.loop-byte-preserved
loop-byte-preserved c =
    let l = c.loop-byte in
    full-turn _ _ _ l.invariant c.loop-byte-test.true (c.type_inv.bits l.byte-index).fits

pub returns : goal.returns
returns c = full-end _ _ _ c.loop-byte.invariant c.loop-byte-test.false
