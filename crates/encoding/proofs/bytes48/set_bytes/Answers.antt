use Rattle.encoding.specs.Labels.{set_bytes}
use Rattle.encoding.proofs.bytes48.set_bytes.Goals as goal

pub returns : goal.returns
unfolding set_bytes
returns c =
    rw (
      c.copy_from_slice-4.ensures.after,
      c.to_le_bytes-4.ensures,
      c.word-4.ensures,
      c.copy_from_slice-3.ensures.after,
      c.to_le_bytes-3.ensures,
      c.word-3.ensures,
      c.copy_from_slice-2.ensures.after,
      c.to_le_bytes-2.ensures,
      c.word-2.ensures,
      c.copy_from_slice.ensures.after,
      c.to_le_bytes.ensures,
      c.word.ensures,
    )
