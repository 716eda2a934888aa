-- The C functions on sessions.
use Rattle.std.specs.Prelude.{ℕ, List, Err}
use Rattle.refusals.specs.Answers.{Given, done, refusal_given, Checked}
use Rattle.sessions.specs.Session.{SessionMarks}
use Rattle.sessions.specs.Opening.{Opening, session, refused, open_of}
use Rattle.sessions.specs.Changes.{set_label_of, set_row_label_of}
use Rattle.sessions.specs.Asking.{may_read_of, may_write_of}
use Rattle.encoding.specs.Sessions.{session_bytes, session_in, changed_into}
use Rattle.encoding.specs.Verdicts.{verdict_code}
use Rattle.abi.specs.Answers.{coded, with_session}

-- ---- `brawnesk_open`: the answer, and the session's bytes after it
-- what opening gives back: 0 where a session opens
abbrev pub opened_given : Opening → Given
opened_given (session s) = done 0
opened_given (refused r) = refusal_given r

-- and the bytes that it leaves: the session's, or as they were
abbrev pub opened_into : Opening → List ℕ → List ℕ
opened_into (session s) old = session_bytes s
opened_into (refused r) old = old

abbrev pub open_answer : List ℕ → List ℕ → List ℕ → ℕ × List ℕ
open_answer im name old = coded opened_given (open_of im name, opened_into (open_of im name) old)

-- ---- `brawnesk_set_label`, `brawnesk_set_row_label`: the answer, and the session's bytes after it
-- of the change that is made of the session that the bytes hold
abbrev pub change_answer : List ℕ → List ℕ → (SessionMarks → SessionMarks × Checked) → ℕ × List ℕ
change_answer im bytes change =
    let changed = with_session im bytes (λ r. (session_in bytes, Err r)) change in changed_into changed.0 changed.1 bytes

abbrev pub set_label_answer : List ℕ → List ℕ → List ℕ → ℕ × List ℕ
set_label_answer im bytes text = change_answer im bytes (λ s. set_label_of im s text)

abbrev pub set_row_label_answer : List ℕ → List ℕ → List ℕ → ℕ × List ℕ
set_row_label_answer im bytes text = change_answer im bytes (λ s. set_row_label_of im s text)

-- ---- `brawnesk_may_read`, `brawnesk_may_write`: 1 yes, 0 no
abbrev pub may_read_answer : List ℕ → List ℕ → ℕ → ℕ
may_read_answer im bytes tag = verdict_code (with_session im bytes Err (λ s. may_read_of im s tag))

abbrev pub may_write_answer : List ℕ → List ℕ → ℕ → ℕ
may_write_answer im bytes tag = verdict_code (with_session im bytes Err (λ s. may_write_of im s tag))
