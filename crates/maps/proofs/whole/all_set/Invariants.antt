use Rattle.maps.proofs.EveryLabel.{Full}
use Rattle.maps.proofs.whole.all_set.Given as goal

abbrev pub invariant-loop-byte : goal.invariant-loop-byte
invariant-loop-byte l = Full l.bits l.byte-index l.seen
