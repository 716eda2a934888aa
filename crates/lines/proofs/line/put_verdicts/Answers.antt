use Rattle.lines.specs.Lines.{ending}
use Rattle.lines.proofs.line.put_verdicts.Goals as goal

pub returns : goal.returns
unfolding ending
returns c =
    rw (c.shown-reads.ensures, c.reads_label.ensures, c.shown-writes.ensures, c.writes_label.ensures) at c.put.ensures
