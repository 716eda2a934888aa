use borrow.Author.Tests.{lt-ltb, le-ltb}
use Rattle.labels.specs.Lists.{found_of}
use Rattle.header.proofs.Inside.{header-inside}
use Rattle.labels.proofs.names.find.Goals as goal

pub class_count-requires : goal.class_count-requires
class_count-requires c = header-inside _ c.requires.0.fitted

pub returns-then-p-class_count : goal.returns-then-p-class_count
unfolding found_of
returns-then-p-class_count c = rw (← c.place_of_name-p.ensures, ← c.class_count.ensures.0, lt-ltb _ _ c.if-p-class_count.true)

pub returns-else-p-class_count : goal.returns-else-p-class_count
unfolding found_of
returns-else-p-class_count c = rw (← c.place_of_name-p.ensures, ← c.class_count.ensures.0, le-ltb _ _ c.if-p-class_count.false)
