use Rattle.encoding.specs.Labels.{set_bytes, label_bytes}
use Rattle.encoding.specs.Sessions.{session_bytes}
use Rattle.encoding.proofs.ReadBack.{session-kept}
use Rattle.encoding.proofs.bytes104.session_bytes.Goals as goal

pub returns : goal.returns
unfolding session_bytes label_bytes set_bytes
returns c =
    let label = c.label_bytes.ensures in
    let row = c.label_bytes-2.ensures in
    session-kept _ _ _ _ label row (rw (c.copy_from_slice-2.ensures.after, row.0, c.copy_from_slice.ensures.after, label.0))
