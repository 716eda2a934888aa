use Rattle.encoding.specs.Sessions.{session_in}
use Rattle.encoding.proofs.bytes104.session_in.Goals as goal

pub returns : goal.returns
unfolding session_in
returns c = rw (c.label_in.ensures, c.label_in-2.ensures)
