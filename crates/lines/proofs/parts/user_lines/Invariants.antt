use Rattle.lines.proofs.Turns.{Filling}
use Rattle.lines.proofs.parts.user_lines.Given as goal

abbrev pub invariant-loop-next : goal.invariant-loop-next
invariant-loop-next l = Filling l.image l.u l.k l.initial.buffer l.buffer l.next l.length
