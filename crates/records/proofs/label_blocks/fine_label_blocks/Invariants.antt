use Rattle.records.proofs.PassedLabels.{Passing}
use Rattle.records.proofs.label_blocks.fine_label_blocks.Given as goal

abbrev pub invariant-loop-k : goal.invariant-loop-k
invariant-loop-k l = Passing l.image l.shape l.k l.last
