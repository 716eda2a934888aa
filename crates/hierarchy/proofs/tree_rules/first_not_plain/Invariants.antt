use Rattle.sets.specs.Groups.{places_of}
use Rattle.hierarchy.specs.UserRows.{PlainUpto}
use Rattle.hierarchy.proofs.tree_rules.first_not_plain.Given as goal

abbrev pub invariant-loop-u : goal.invariant-loop-u
invariant-loop-u l = PlainUpto (places_of l.all) l.users l.bytes l.from l.u
