-- The verdicts that a call answers: what a session may read is readable at its user's maximum read label (READ and FULL are held there
-- too), and what it may write it may read. Assumes nothing.
use Rattle.std.proofs.Common.{Ok, Err}
use Prim.Native.Nat.{ℕ}
use mathlib.Core.Path.{◌≡◌, refl, sym, ap}
use mathlib.Core.Bool.{Bool, true, false, true≢false}
use mathlib.Core.List.{List}
use Rattle.refusals.specs.Answers.{on_checked, Checked, Verdict}
use Rattle.access.specs.Verdicts.{may_read, may_write, readable_at_maximum}
use Rattle.access.proofs.Maximum.{maximum-reads}
use Rattle.access.proofs.Writable.{writable-readable}
use Rattle.sessions.specs.Session.{SessionMarks, lent_answer, session_rights}
use Rattle.sessions.specs.Asking.{may_read_of, may_write_of}
use Rattle.sessions.proofs.Accepting.{lent-accepted, lent-rule}

abbrev is_yes : Verdict → Bool
is_yes (Ok true) = true
is_yes (Ok false) = false
is_yes (Err r) = false

pub reads-within-maximum : (im : List ℕ) (s : SessionMarks) (tag : ℕ) → may_read_of im s tag ≡ (Ok true) → readable_at_maximum im s.user tag ≡ true
unfolding may_read_of
reads-within-maximum im s tag e = at (lent_answer im s) refl (may_read im (session_rights im s) tag) refl (ap is_yes e)
  where
    at : (c : Checked) → lent_answer im s ≡ c → (t : Bool) → may_read im (session_rights im s) tag ≡ t
        → is_yes (on_checked c Err (Ok t)) ≡ true → readable_at_maximum im s.user tag ≡ true
    at (Ok tt) a true r y =
        maximum-reads im (lent-accepted im s a) s.user s.label s.row (lent-rule im s a) tag r
    at (Ok tt) a false r y = absurd (true≢false (sym y))
    at (Err q) a t r y = absurd (true≢false (sym y))

pub writes-readable : (im : List ℕ) (s : SessionMarks) (tag : ℕ) → may_write_of im s tag ≡ (Ok true) → may_read_of im s tag ≡ Ok true
unfolding may_read_of may_write_of
writes-readable im s tag e = at (lent_answer im s) (may_write im (session_rights im s) tag) refl (ap is_yes e)
  where
    at : (c : Checked) (t : Bool) → may_write im (session_rights im s) tag ≡ t → is_yes (on_checked c Err (Ok t)) ≡ true
        → on_checked c Err (Ok (may_read im (session_rights im s) tag)) ≡ Ok true
    at (Ok tt) true w y = rw (writable-readable im s.user s.label tag w)
    at (Ok tt) false w y = absurd (true≢false (sym y))
    at (Err q) t w y = absurd (true≢false (sym y))
