-- A call on a session in bytes is the call on that session: what is handed out holds the session of the by-value call, so the next call works
-- on it, and a refused change leaves bytes that hold the session as it was. Assumes nothing.
use Rattle.std.proofs.Common.{Ok, Err}
use Prim.Native.Nat.{ℕ}
use mathlib.Core.Path.{◌≡◌, refl, sym, ap}
use mathlib.Core.List.{List}
use Rattle.refusals.specs.declared.Refusal.{Refusal}
use Rattle.refusals.specs.Answers.{on_checked, checked_given, code_of, answer_of, Checked, amount_given}
use Rattle.image.proofs.Accepted.{refused-not}
use Rattle.labels.specs.Label.{Marks}
use Rattle.labels.specs.Parse as parse
use Rattle.labels.specs.Parse.{Reading, read_text}
use Rattle.access.specs.NewLabels.{session_label_answer, row_label_answer}
use Rattle.sessions.specs.Session.{SessionMarks, lent_answer, session_rights}
use Rattle.sessions.specs.Opening.{session, refused, open_of}
use Rattle.sessions.specs.Changes.{change_if, change_to, after_lent, with_label, with_row_label, label_change, row_label_change, set_label_of, set_row_label_of}
use Rattle.sessions.specs.Asking.{may_read_of, may_write_of}
use Rattle.sessions.proofs.Passing.{opened-passes, label-changed-passes, row-label-changed-passes}
use Rattle.buffers.specs.Filling.{unfilled}
use Rattle.maps.specs.Calls.{make_map_of, judge_map_of}
use Rattle.rows.specs.Reading.{read_rows_of}
use Rattle.rows.specs.Updating.{update_row_of}
use Rattle.rows.specs.Masked.{masked_verdict_of}
use Rattle.rows.specs.Mapped.{read_mapped_of}
use Rattle.encoding.specs.Sessions.{session_bytes, session_in, SessionPartsFit, Holds, changed_into}
use Rattle.encoding.specs.Verdicts.{verdict_code}
use Rattle.encoding.proofs.ReadBack.{bytes-hold}
use Rattle.abi.specs.Answers.{coded, with_session}
use Rattle.abi.specs.Maps.{make_map_answer, judge_map_answer, read_mapped_answer}
use Rattle.abi.specs.Sessions.{open_answer, change_answer, set_label_answer, set_row_label_answer, may_read_answer, may_write_answer}
use Rattle.abi.specs.Tables.{read_answer, update_answer, masked_answer}
use Rattle.abi.proofs.Widths.{lent-widths}

-- ---- openings
pub open-holds : (im name old : List ℕ) (s : SessionMarks) → open_of im name ≡ session s → Holds (open_answer im name old).1 s
open-holds im name old s e = rw e (bytes-hold s (lent-widths im s (opened-passes im name s e)))

pub open-refused : (im name old : List ℕ) (r : Refusal) → open_of im name ≡ refused r
    → ◌≡◌ {A = ℕ × List ℕ} (open_answer im name old) (answer_of r, old)
open-refused im name old r e = rw e

-- ---- a refused change gives the session back as it was
if-same : (old new : SessionMarks) (c : Checked) (r : Refusal) → (change_if old c new).1 ≡ Err r → (change_if old c new).0 ≡ old
if-same old new (Ok tt) r e = absurd (refused-not r (sym e))
if-same old new (Err q) r e = refl

to_same : (old : SessionMarks) (read : Reading Marks) (rule : Marks → Checked) (change : Marks → SessionMarks) (r : Refusal)
    → (change_to old read rule change).1 ≡ Err r → (change_to old read rule change).0 ≡ old
to_same old (parse.read m) rule change r e = if-same old (change m) (rule m) r e
to_same old (parse.refused q) rule change r e = refl

lent_same : (im : List ℕ) (s : SessionMarks) (change : SessionMarks × Checked) → ((r : Refusal) → change.1 ≡ Err r → change.0 ≡ s)
    → (r : Refusal) → (after_lent im s change).1 ≡ Err r → (after_lent im s change).0 ≡ s
lent_same im s change same r = at (lent_answer im s)
  where
    at : (c : Checked) → (on_checked {A = SessionMarks × Checked} c (λ q. (s, Err q)) change).1 ≡ Err r
        → (on_checked {A = SessionMarks × Checked} c (λ q. (s, Err q)) change).0 ≡ s
    at (Ok tt) e = same r e
    at (Err q) e = refl

module _ (im text : List ℕ) (s : SessionMarks) where
  set-label-same : (r : Refusal) → (set_label_of im s text).1 ≡ Err r → (set_label_of im s text).0 ≡ s
  unfolding set_label_of label_change
  set-label-same =
      lent_same im s _ (to_same s (read_text im text) (λ new. session_label_answer im s.user new s.row) (λ new. with_label s new))

  set-row-label-same : (r : Refusal) → (set_row_label_of im s text).1 ≡ Err r → (set_row_label_of im s text).0 ≡ s
  unfolding set_row_label_of row_label_change
  set-row-label-same =
      lent_same im s _ (to_same s (read_text im text) (λ new. row_label_answer (session_rights im s) new) (λ new. with_row_label s new))

both-parts : (p : SessionMarks × Checked) (c : Checked) → p.1 ≡ c → p ≡ (p.0, c)
both-parts p c e = rw (← e)

-- ---- calls on bytes that hold a session
module _ (im bytes : List ℕ) (s : SessionMarks) (holds : Holds bytes s) where
  held : {A : Type 0} (refuse : Refusal → A) (answer : SessionMarks → A) → with_session im bytes refuse answer ≡ answer s
  held refuse answer = rw (holds.one, holds.session)

  -- label changes: the number is that of the change, and the bytes hold the session that it gives back
  module _ (change : SessionMarks → SessionMarks × Checked) where
    changed : ◌≡◌ {A = ℕ × List ℕ} (change_answer im bytes change) (changed_into (change s).0 (change s).1 bytes)
    changed = ap (λ (p : SessionMarks × Checked). changed_into p.0 p.1 bytes) (held (λ r. (session_in bytes, Err r)) change)

    change-code : (change_answer im bytes change).0 ≡ code_of (checked_given (change s).1)
    change-code = ap (λ (p : ℕ × List ℕ). p.0) changed

    change-holds : ((r : Refusal) → (change s).1 ≡ Err r → (change s).0 ≡ s) → ((change s).1 ≡ (Ok tt) → SessionPartsFit (change s).0)
        → Holds (change_answer im bytes change).1 (change s).0
    change-holds same fits = rw (ap (λ (p : ℕ × List ℕ). p.1) changed) (left (change s).1 refl)
      where
        left : (c : Checked) → (change s).1 ≡ c → Holds (on_checked c (λ r. bytes) (session_bytes (change s).0)) (change s).0
        left (Ok tt) e = bytes-hold (change s).0 (fits e)
        left (Err r) e = rw (same r e) holds

  pub set-label-code : (text : List ℕ) → (set_label_answer im bytes text).0 ≡ code_of (checked_given (set_label_of im s text).1)
  set-label-code text = change-code (λ t. set_label_of im t text)

  pub set-label-holds : (text : List ℕ) → Holds (set_label_answer im bytes text).1 (set_label_of im s text).0
  set-label-holds text =
      let new = set_label_of im s text in
      change-holds (λ t. set_label_of im t text) (set-label-same im text s)
      (λ e. lent-widths im new.0 (label-changed-passes im text s new.0 (both-parts new (Ok tt) e)))

  pub set-row-label-code : (text : List ℕ) → (set_row_label_answer im bytes text).0 ≡ code_of (checked_given (set_row_label_of im s text).1)
  set-row-label-code text = change-code (λ t. set_row_label_of im t text)

  pub set-row-label-holds : (text : List ℕ) → Holds (set_row_label_answer im bytes text).1 (set_row_label_of im s text).0
  set-row-label-holds text =
      let new = set_row_label_of im s text in
      change-holds (λ t. set_row_label_of im t text) (set-row-label-same im text s)
      (λ e. lent-widths im new.0 (row-label-changed-passes im text s new.0 (both-parts new (Ok tt) e)))

  -- verdicts
  pub may-read-held : (tag : ℕ) → may_read_answer im bytes tag ≡ verdict_code (may_read_of im s tag)
  may-read-held tag = ap verdict_code (held Err (λ t. may_read_of im t tag))

  pub may-write-held : (tag : ℕ) → may_write_answer im bytes tag ≡ verdict_code (may_write_of im s tag)
  may-write-held tag = ap verdict_code (held Err (λ t. may_write_of im t tag))

  -- row calls, with the buffer or the table after them
  pub read_held : (table : List ℕ) (w : ℕ) (buffer : List ℕ)
      → ◌≡◌ {A = ℕ × List ℕ} (read_answer im bytes table w buffer) (coded amount_given (read_rows_of im s table w buffer))
  read_held table w buffer = ap (coded amount_given) (held (λ r. (Err r, buffer)) (λ t. read_rows_of im t table w buffer))

  pub update-held : (table : List ℕ) (w n : ℕ) (payload : List ℕ)
      → ◌≡◌ {A = ℕ × List ℕ} (update_answer im bytes table w n payload) (coded checked_given (update_row_of im s table w n payload))
  update-held table w n payload = ap (coded checked_given) (held (λ r. (Err r, table)) (λ t. update_row_of im t table w n payload))

  pub masked-held : (table : List ℕ) (w place : ℕ) → masked_answer im bytes table w place ≡ verdict_code (masked_verdict_of im s table w place)
  masked-held table w place = ap verdict_code (held Err (λ t. masked_verdict_of im t table w place))

  -- maps
  pub make-map-held : (buffer : List ℕ) → ◌≡◌ {A = ℕ × List ℕ} (make_map_answer im bytes buffer) (coded amount_given (make_map_of im s buffer))
  make-map-held buffer = ap (coded amount_given) (held (unfilled buffer) (λ t. make_map_of im t buffer))

  pub judge-map-held : (bits : List ℕ) → judge_map_answer im bytes bits ≡ code_of (checked_given (judge_map_of im s bits))
  judge-map-held bits = ap (λ (c : Checked). code_of (checked_given c)) (held Err (λ t. judge_map_of im t bits))

  pub read-mapped-held : (table : List ℕ) (w : ℕ) (bits buffer : List ℕ)
      → ◌≡◌ {A = ℕ × List ℕ} (read_mapped_answer im bytes table w bits buffer) (coded amount_given (read_mapped_of im s table w bits buffer))
  read-mapped-held table w bits buffer = ap (coded amount_given) (held (λ r. (Err r, buffer)) (λ t. read_mapped_of im t table w bits buffer))
