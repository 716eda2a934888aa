use Rattle.sets.specs.Groups.{places_of}
use Rattle.records.specs.LabelBlocks.{GatheredOf}
use Rattle.records.proofs.label_blocks.gather.Given as goal

abbrev pub invariant-loop-j : goal.invariant-loop-j
invariant-loop-j l =
    GatheredOf l.edition l.size l.run l.before l.levels l.j l.last l.compartments (places_of l.groups)
