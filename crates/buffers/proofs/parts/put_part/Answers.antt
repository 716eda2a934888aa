use mathlib.Core.Path.{◌∙◌}
use Rattle.buffers.proofs.Stored.{part-put}
use Rattle.buffers.proofs.parts.put_part.Goals as goal

pub returns : goal.returns
returns g c =
    part-put _ _ g.row.N c.requires.0 _ _ _ (c.copy_bytes-2.ensures ∙ c.copy_bytes.ensures)
