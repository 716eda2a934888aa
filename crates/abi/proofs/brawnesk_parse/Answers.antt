use Rattle.labels.proofs.Offsets.{image-told}
use Rattle.labels.specs.Parse.{parsing_of}
use mathlib.Core.Path.{sym, ap, ◌∙◌}
use Rattle.abi.proofs.brawnesk_parse.Goals as goal

pub refused-requires : goal.refused-requires
refused-requires c = image-told _ _ _ (sym c.parse.ensures ∙ ap parsing_of c.in-Err.is)

pub returns-in-Ok : goal.returns-in-Ok
returns-in-Ok c = rw (← c.parse.ensures, c.in-Ok.is, c.label_bytes.ensures.0)

pub returns-in-Err : goal.returns-in-Err
returns-in-Err c = rw (← c.parse.ensures, c.in-Err.is, c.refused.ensures)
