use mathlib.Core.Path.{sym, ◌∙◌}
use Rattle.maps.proofs.InWords.{bytes-eight}
use Rattle.maps.proofs.making.put_bytes.Goals as goal

pub returns-then-n-eq8 : goal.returns-then-n-eq8
returns-then-n-eq8 c = rw c.if-n-eq8.true (c.copy_from_slice.ensures.after ∙ c.to_le_bytes.ensures ∙ sym (bytes-eight c.args.w))
