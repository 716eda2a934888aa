use Rattle.image.proofs.Turns.{Searching}
use Rattle.image.proofs.given.search_tag.Given as goal

abbrev pub invariant-loop-left : goal.invariant-loop-left
invariant-loop-left l = Searching l.image l.tag l.count l.low l.left
