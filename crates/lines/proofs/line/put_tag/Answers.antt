use native.Mathlib.Omega.{arith}
use lib.ListN.{length-set}
use Rattle.buffers.proofs.Left.{byte-then}
use Rattle.lines.proofs.line.put_tag.Goals as goal

pub put_number-requires : goal.put_number-requires
put_number-requires c = rw (length-set, c.tag-tag.ensures) c.requires.k_in_bounds

pub returns : goal.returns
returns c =
    byte-then _ _ _ (omega (arith, c.requires.k_in_bounds)) (rw c.tag-tag.ensures at c.put_number.ensures)
