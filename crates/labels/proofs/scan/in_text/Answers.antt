use mathlib.Core.Path.{refl}
use Rattle.fields.specs.Names.{name_byte, small_letter}
use Rattle.labels.specs.Text.{text_byte}
use Rattle.labels.proofs.scan.in_text.Goals as goal

pub returns : goal.returns
unfolding text_byte name_byte small_letter
returns c = refl
