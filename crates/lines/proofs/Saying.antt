-- The report says what the calls say, and input past the buffer is refused 1. Assumes nothing.
use Rattle.std.proofs.Common.{Ok}
use Prim.Native.Nat.{ℕ, ◌%◌, ◌<◌}
use mathlib.Core.Path.{◌≡◌}
use mathlib.Core.Bool.{◌&&◌, and-false}
use mathlib.Core.List.{List}
use borrow.Author.Tests.{lt-ltb, lt-leb}
use lib.Dec.{eqb, ltb}
use lib.ListN.{length}
use Rattle.refusals.specs.declared.Refusal.TheVariants.{ImageLength}
use Rattle.blocks.specs.Blocks.{length_rule}
use Rattle.header.specs.Layout.{users, labels, user_record, label_record}
use Rattle.records.specs.Fields.{tag_of, user_name}
use Rattle.image.specs.Check.{fault_of, check_of, IsAccepted}
use Rattle.image.specs.Walk.{found_fault}
use Rattle.image.proofs.Told.{found-lowest}
use Rattle.image.proofs.Policy.{label-found, user-found}
use Rattle.access.specs.Verdicts.{known_tag, reads_label, writes_label, may_read, may_write}
use Rattle.labels.specs.Label.{label_at}
use Rattle.sessions.specs.Session.{session_rights}
use Rattle.sessions.specs.Opening.{session, default_session, open_accepted, open_of}
use Rattle.sessions.specs.Asking.{may_read_of, may_write_of}
use Rattle.sessions.proofs.Passing.{default-lent}
use Rattle.lines.specs.Lines.{refused_line, output_of}

module _ (im : List ℕ) (acc : IsAccepted im) (u : ℕ) (here : u < users im) where
  -- the session of a line is the one that opens by the line's name
  pub opens : open_of im (user_name (user_record im u)) ≡ session (default_session im u)
  unfolding open_of open_accepted
  opens = rw (acc, user-found im acc u here, lt-ltb u (users im) here)

  -- the letters of a line are what `may_read` and `may_write` answer that session for the line's tag
  module _ (k : ℕ) (there : k < labels im) where
    pub reads-said : may_read_of im (default_session im u) (tag_of (label_record im k))
        ≡ Ok (reads_label (session_rights im (default_session im u)) (label_at im k))
    unfolding may_read_of may_read known_tag
    reads-said = rw (default-lent im acc u here, label-found im acc k there, lt-ltb k (labels im) there)

    pub writes-said : may_write_of im (default_session im u) (tag_of (label_record im k))
        ≡ Ok (writes_label (session_rights im (default_session im u)) (label_at im k))
    unfolding may_write_of may_write known_tag
    writes-said = rw (default-lent im acc u here, label-found im acc k there, lt-ltb k (labels im) there)

-- input past the buffer of 65,536 bytes is refused 1, whatever else holds: the program need not read it
pub past-buffer : (im : List ℕ) → 65536 < length im → output_of im ≡ refused_line ImageLength
unfolding output_of check_of fault_of found_fault length_rule
past-buffer im h = rw (found-lowest im, lt-leb (length im) 65536 h, and-false (ltb 0 (length im) && eqb (length im % 512) 0))
