use borrow.Author.Rules.{rules}
use Rattle.sets.proofs.Places.{places-below}
use Rattle.encoding.specs.Labels.{set_bytes, label_bytes}
use Rattle.encoding.proofs.ReadBack.{label_kept}
use Rattle.encoding.proofs.bytes48.label_bytes.Goals as goal

pub returns : goal.returns
unfolding label_bytes set_bytes
returns c =
    label_kept _ _ record { level = search rules; compartments = search rules; groups = places-below _ }
    (rw (
      c.copy_from_slice-2.ensures.after,
      c.set_bytes.ensures,
      c.copy_from_slice.ensures.after,
      c.to_le_bytes.ensures,
    ))
