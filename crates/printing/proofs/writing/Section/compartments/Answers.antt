use Rattle.header.proofs.Inside.{header-inside}
use Rattle.image.proofs.Accepted.{accepted-counted}
use Rattle.printing.proofs.Whole.{named-compartments}
use Rattle.printing.proofs.writing.Section.compartments.Goals as goal

pub compartments-requires : goal.compartments-requires
compartments-requires c = header-inside _ (accepted-counted _ c.requires).fitted

pub invariant_of-result : goal.invariant_of-result
invariant_of-result c = record { named = rw c.compartments.ensures.0 (named-compartments _ c.requires) }

pub returns : goal.returns
returns c = rw (c.compartments.ensures.0, c.of_word.ensures)
