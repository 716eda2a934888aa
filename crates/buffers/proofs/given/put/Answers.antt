use mathlib.Core.Path.{refl}
use Rattle.buffers.proofs.given.put.Goals as goal

pub returns-then-text-ge64 : goal.returns-then-text-ge64
returns-then-text-ge64 c = record { bytes = c.put_long.ensures; stop = refl }

pub returns : goal.returns
returns c = record { bytes = c.put_parts.ensures; stop = refl }
