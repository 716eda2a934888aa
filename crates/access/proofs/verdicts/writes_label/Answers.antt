use Rattle.access.specs.Verdicts.{writes_label}
use Rattle.access.proofs.verdicts.writes_label.Goals as goal

pub returns : goal.returns
unfolding writes_label
returns c = rw (c.writes_all.ensures, c.write_tests.ensures)
