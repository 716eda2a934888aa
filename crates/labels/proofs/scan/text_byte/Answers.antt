use Rattle.labels.specs.Text.{text_byte}
use Rattle.labels.proofs.scan.text_byte.Goals as goal

pub returns : goal.returns
unfolding text_byte
returns c = rw (c.name_byte.ensures, c.small_letter.ensures)
